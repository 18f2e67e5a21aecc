-- The number 0 is that of no refusal.
use Rattle.std.proofs.Common.{◌≡◌, Result, Ok, Err}
use Rattle.std.specs.Prelude.{IfOk}
use Rattle.refusals.specs.Refusals.{refusal}
use Rattle.refusals.specs.declared.FormatError.{FormatError}
use Rattle.refusals.specs.declared.FormatError.TheVariants.{UnexpectedEof, InvalidOffsetSize, InvalidLengthSize}
use Rattle.refusals.specs.declared.FormatError.TheVariants.{InvalidFractalHeapSignature, InvalidFractalHeapVersion}
use Rattle.refusals.specs.declared.FormatError.TheVariants.{InvalidHeapIdType, ChecksumMismatch, OffsetOverflow}
use Rattle.refusals.specs.declared.FormatError.TheVariants.{UnsupportedFilteredHeapObject, DepthExceeded}
use Rattle.refusals.specs.declared.FormatError.TheVariants.{ObjectTooLarge, HeapSpaceExhausted, SliceTooShort}
use Rattle.refusals.specs.declared.FormatError.TheVariants.{ObjectBytesMismatch, HeaderAddressTooLarge}
use Rattle.refusals.specs.declared.FormatError.TheVariants.{RegionAddressTooLarge, HeapIdTooLarge, HeaderFieldTooLarge}
use Rattle.refusals.specs.declared.FormatError.TheVariants.{BlockChecksumMismatch, ForeignBlock, OutsideHeap}
use Rattle.plan.specs.declared.ManagedPlan.{ManagedPlan}
use Rattle.plan.specs.Answer.{planned_number}

none : (e : FormatError) → (refusal e).number ≡ 0 → ⊥
none (UnexpectedEof expected available) h = cc
none (InvalidOffsetSize size) h = cc
none (InvalidLengthSize size) h = cc
none InvalidFractalHeapSignature h = cc
none (InvalidFractalHeapVersion version) h = cc
none (InvalidHeapIdType kind) h = cc
none (ChecksumMismatch stored computed) h = cc
none UnsupportedFilteredHeapObject h = cc
none (OffsetOverflow address distance) h = cc
none DepthExceeded h = cc
none (ObjectTooLarge index size) h = cc
none (HeapSpaceExhausted index) h = cc
none (SliceTooShort needed lent) h = cc
none (ObjectBytesMismatch sum given) h = cc
none (HeaderAddressTooLarge address) h = cc
none (RegionAddressTooLarge address size) h = cc
none (HeapIdTooLarge offset size) h = cc
none (HeaderFieldTooLarge place value) h = cc
none (BlockChecksumMismatch stored computed) h = cc
none (ForeignBlock stored wanted) h = cc
none (OutsideHeap number) h = cc

-- what holds of an accepted plan, where the number is 0
pub accepted : (r : Result ManagedPlan FormatError) (P : ManagedPlan → Type 0) (Q : Type 0) → planned_number r ≡ 0
    → IfOk r P → ((p : ManagedPlan) → P p → Q) → Q
accepted (Ok p) P Q e h use-it = use-it p h
accepted (Err f) P Q e h use-it = absurd (none f e)
