-- What is left of `root_rows_covering`: no byte needs one row, and else the row of the last byte is the last row.
use Rattle.std.proofs.Common.{ℕ, ◌+◌, sym, ap, ◌∙◌, arith}
use Rattle.std.specs.Prelude.{Some}
use Rattle.table.specs.Table.{fixed, covering}
use Rattle.table.proofs.RootRows.{covers-zero, covers-not, covers}
use Rattle.table.proofs.row_counts.root_rows_covering.Goals as goal

pub returns-then-span-eq0 : goal.returns-then-span-eq0
returns-then-span-eq0 c = sym (ap (covering fixed) c.if-span-eq0.true ∙ covers-zero)

pub returns-then-span-gt-MAX_HEAP_SPACE : goal.returns-then-span-gt-MAX_HEAP_SPACE
returns-then-span-gt-MAX_HEAP_SPACE c = sym (covers-not c.args.span c.if-span-gt-MAX_HEAP_SPACE.true)

pub returns : goal.returns
returns c =
    ap (λ (n : ℕ). Some (n + 1)) c.row_of.ensures.row
    ∙ sym (covers c.args.span (omega arith) c.if-span-gt-MAX_HEAP_SPACE.false)
