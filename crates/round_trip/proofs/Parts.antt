-- A part of a file that is lent, and written at its front, is written into the file.
use Rattle.std.proofs.Common.{◌≡◌, ℕ, ◌+◌, ◌-◌, ◌≤◌, min, List, [], ◌++◌, length, take, drop, Result, Ok, Err, IfOk}
use Rattle.std.proofs.Common.{sym, ap, ap₂, ◌∙◌, append-nil, append_assoc, arith, drop_of_length-le, length-drop}
use Rattle.std.proofs.Common.{drop-drop, take_all}
use Rattle.refusals.specs.declared.FormatError.{FormatError}
use Rattle.fields.specs.LittleEndian.{put}
use Rattle.fields.proofs.LittleEndian.{put_front}
use Rattle.std.proofs.lemmas.List.{take_min, drop_min}
use Rattle.plan.specs.declared.ManagedPlan.{ManagedPlan}

module _ (file new : List ℕ) (a start k : ℕ) (s : start ≡ min a (length file)) (e : k ≡ length file - start) where
  pub part_put : (bs : List ℕ) → new ≡ put (take k (drop start file)) 0 bs
      → take start file ++ (new ++ drop k (drop start file)) ≡ put file a bs
  unfolding put
  part_put bs n =
      let few : length (drop start file) ≤ k = omega (arith, length-drop start file, e) in
      let none : drop k (drop start file) ≡ [] = drop_of_length-le (drop start file) few in
      let front : take start file ≡ take a file = ap (λ (m : ℕ). take m file) s ∙ take_min a file in
      let behind : drop start file ≡ drop a file = ap (λ (m : ℕ). drop m file) s ∙ drop_min a file in
      let is : new ≡ bs ++ drop (length bs) (drop a file) = n ∙ put_front (take k (drop start file)) bs
      ∙ ap (λ (l : List ℕ). bs ++ drop (length bs) l) (take_all k (drop start file) few ∙ behind) in
      ap₂ (λ (l r : List ℕ). l ++ (new ++ r)) front none ∙ ap (λ (l : List ℕ). take a file ++ l) (append-nil new ∙ is)
      ∙ ap (λ (l : List ℕ). take a file ++ (bs ++ l)) (drop-drop (length bs) a file)
      ∙ sym (append_assoc (take a file) bs (drop (a + length bs) file))

  -- what is written of a plan that is accepted
  pub written_at : (out : List ℕ) → out ≡ take start file ++ (new ++ drop k (drop start file))
      → (r : Result ManagedPlan FormatError) (bytes : ManagedPlan → List ℕ)
      → IfOk r (λ plan. new ≡ put (take k (drop start file)) 0 (bytes plan))
      → IfOk r (λ plan. out ≡ put file a (bytes plan))
  written_at out o (Ok p) bytes h = o ∙ part_put (bytes p) h
  written_at out o (Err f) bytes h = h
