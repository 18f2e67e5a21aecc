-- What is refused has no number 0.
use Rattle.std.proofs.Common.{◌≡◌, ℕ, List, Result, Ok, Err, OnOk, arith}
use Rattle.std.proofs.lemmas.Bool.Decides.{nat_tests}
use Rattle.refusals.specs.Refusals.{refusal, report_of}
use Rattle.refusals.specs.declared.FormatError.{FormatError}
use Rattle.fields.specs.Slot.{slot_number}
use Rattle.fractal_heap.specs.Writing.{written_report}
use Rattle.fractal_heap.specs.declared.write.WrittenHeader.{WrittenHeader}
use Rattle.planner.specs.declared.State.{State}
use Rattle.open_plan.specs.Additions.{addition}

pub refused_not_zero : (w : ℕ) (s : State) (n x : ℕ) (e : FormatError) → addition w s n x ≡ Err e
    → (refusal e).number ≡ 0 → ⊥
refused_not_zero w s n x e q z = grind (arith, nat_tests)

-- so what holds of a header that was written holds where 0 is answered
pub written_holds : {P : Type 0} (slot : List ℕ) (r : Result WrittenHeader FormatError) → OnOk r P
    → slot_number slot (report_of written_report r) ≡ 0 → P
written_holds slot (Ok w) holds zero = holds
written_holds slot (Err e) holds zero = absurd (grind (arith, nat_tests))
