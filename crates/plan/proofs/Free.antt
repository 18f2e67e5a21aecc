-- Free space is the number of heap offsets in the bodies of the managed space's direct slots and in no object.
use Rattle.std.proofs.Common.{◌≡◌, ℕ, zero, suc, ◌+◌, ◌-◌, ◌^◌, ◌<◌, ◌≤◌, Bool, true, false, not, ◌&&◌, ◌||◌, ◌↔◌, List}
use Rattle.std.proofs.Common.{[], ◌∷◌, nat_lt, nat_le, Ok, refl, ◌∙◌, ap₂, ⊎_elim, arith}
use Rattle.std.proofs.lemmas.Bool.Decides.{nat_tests}
use Rattle.fields.proofs.Widths.{legal-small}
use Rattle.table.specs.Table.{Table, fixed, row_offset}
use Rattle.table.specs.Sizes.{direct_header}
use Rattle.numbers.specs.Sums.{sum}
use Rattle.table.specs.Capacity.{capacity}
use Rattle.table_laws.specs.Count.{count, InBody}
use Rattle.table_laws.proofs.Counting.{count-ext, count_none, count-or, count_less, count-interval}
use Rattle.table_laws.proofs.Format.{in_body, slot-body, body-in, body-out}
use Rattle.table_laws.proofs.Bodies.{first_body, first-bodies, bodies}
use Rattle.planner.specs.declared.State.{State}
use Rattle.plan.specs.declared.ManagedPlan.{ManagedPlan}
use Rattle.planner.specs.Steps.{initial, plan_offsets, starts_from}
use Rattle.plan.specs.Answer.{planned_for}
use Rattle.planner.proofs.Stepping.{Sane}
use Rattle.plan.specs.Plans.{InObject, FreeByte, Free, FreeCounted}
use Rattle.plan.proofs.Answering.{Went, accepted}
use Rattle.plan.proofs.Laying.{Laid, filled_to, Spaced, none, more, spaced, used-sum, held, ran-ok, ran-laid}
use Rattle.plan.proofs.Root.{Bare, Rowed, shape}

-- ---- the bytes of objects

-- x lies in one of the objects
unfoldable in_objects : List ℕ → List ℕ → ℕ → Bool
in_objects [] xs x = false
in_objects (o ∷ os) [] x = false
in_objects (o ∷ os) (y ∷ xs) x = (nat_le o x && nat_lt x (o + y)) || in_objects os xs x

-- what the test says, both ways
in_some : (os xs : List ℕ) (x : ℕ) → in_objects os xs x ≡ true → (i : ℕ) × InObject os xs i x
unfolding in_objects
in_some [] xs x e = absurd cc
in_some (o ∷ os) [] x e = absurd cc
in_some (o ∷ os) (y ∷ xs) x e = go (nat_le o x && nat_lt x (o + y)) refl (in_some os xs x)
  where
    go : (b : Bool) → (nat_le o x && nat_lt x (o + y)) ≡ b → (in_objects os xs x ≡ true → (i : ℕ) × InObject os xs i x)
        → (i : ℕ) × InObject (o ∷ os) (y ∷ xs) i x
    go true p ih = (0, grind (arith, nat_tests))
    go false p ih =
        let (i, A) = ih (grind (arith, nat_tests)) in
        (suc i, record { is_object = omega (arith, A.is_object); not_before = A.not_before; not_behind = A.not_behind })

in-at : {lo hi : ℕ} {os xs : List ℕ} → Spaced lo os xs hi → (x i : ℕ) → InObject os xs i x → in_objects os xs x ≡ true
unfolding in_objects
in-at (none l) x i A = absurd (omega (arith, A.is_object))
in-at (more l s) x zero A = grind (arith, nat_tests, A.not_before, A.not_behind)
in-at (more {os = os} {xs = xs} l s) x (suc i) A =
    let here : InObject os xs i x =
    record { is_object = omega (arith, A.is_object); not_before = A.not_before; not_behind = A.not_behind } in
    grind (arith, nat_tests, in-at s x i here)

-- none before the first
below_none : {lo hi : ℕ} {os xs : List ℕ} → Spaced lo os xs hi → (x : ℕ) → x < lo → in_objects os xs x ≡ false
unfolding in_objects
below_none (none l) x u = refl
below_none (more l s) x u = grind (arith, nat_tests, below_none s x)

spaced-le : {lo hi : ℕ} {os xs : List ℕ} → Spaced lo os xs hi → lo ≤ hi
spaced-le (none l) = l
spaced-le (more l s) = omega (arith, spaced-le s)

-- objects in order have as many offsets as their sizes add up to
objects-count : {lo hi : ℕ} {os xs : List ℕ} → Spaced lo os xs hi → (m : ℕ) → hi ≤ m
    → count (in_objects os xs) m ≡ sum xs
unfolding in_objects sum
objects-count (none l) m u = count_none _ m (λ x g. refl)
objects-count (more {o = o} {x = y} {os = os} {xs = xs} l s) m u =
    count-or (λ x. nat_le o x && nat_lt x (o + y)) (in_objects os xs) m
    (λ x g. below_none s x (grind (arith, nat_tests)))
    ∙ ap₂ (λ (a b : ℕ). a + b) (count-interval o y m (omega (arith, spaced-le s))) (objects-count s m u)

-- ---- the managed space

-- the bodies of the slots of n root rows lie below m and are those that `in_body` passes there, c offsets
pub record Span (t : Table) (h n m c : ℕ) : Type 0 where
  pub inside : (x : ℕ) → InBody t h n x → (x < m) × (in_body t h x ≡ true)
  pub back : (x : ℕ) → x < m → in_body t h x ≡ true → InBody t h n x
  pub holds : count (in_body t h) m ≡ c

module _ (t : Table) (h : ℕ) (g : t.start_bits ≤ t.direct_bits) (k : t.start_bits ≤ t.heap_bits) where
  -- no rows
  span-bare : Span t h 0 (2 ^ t.start_bits) (2 ^ t.start_bits - h)
  span-bare = record {
    inside = λ x B. grind (arith, nat_tests, B.slot.0, B.slot.1, B.past_header, B.before_end, first_body t h g x k);
    back = λ x u e.
        let l : h ≤ x = grind (arith, nat_tests, first_body t h g x k u) in
        record {
          start = 0;
          size = 2 ^ t.start_bits;
          slot = (refl, refl);
          past_header = omega arith;
          before_end = omega arith;
        };
    holds = first-bodies t h g k;
  }

  -- some rows
  span-rows : (n : ℕ) → t.width_bits + t.start_bits ≤ suc t.direct_bits → row_offset t (suc n) ≤ 2 ^ t.heap_bits
      → Span t h (suc n) (row_offset t (suc n)) (capacity t h (suc n))
  span-rows n w u =
      record {
        inside = λ x B. body-in t g w h n x u B;
        back = λ x l e. body-out t g w h n x u l e;
        holds = bodies t h g w (suc n) u;
      }

-- ---- free bytes

module _ (t : Table) (g : t.start_bits ≤ t.direct_bits) (k : t.start_bits ≤ t.heap_bits) (w : ℕ)
    (I : Sane t w (initial t w)) {xs os bs : List ℕ} {s : State} (L : Laid t w (initial t w) xs os bs s)
    {n m c : ℕ} (S : Span t (direct_header t w) n m c) (l : filled_to s ≤ m) where
  -- objects lie in bodies
  objects-in-bodies : (x : ℕ) → in_objects os xs x ≡ true → in_body t (direct_header t w) x ≡ true
  objects-in-bodies x e =
      let (i, A) = in_some os xs x e in
      let H = held L i A.is_object in
      slot-body t g (direct_header t w) x k H.slot (grind (arith, A.not_before, H.from))
      (grind (arith, A.not_behind, H.to))

  -- in a body, and in no object
  abbrev is_free : ℕ → Bool
  is_free x = in_body t (direct_header t w) x && not (in_objects os xs x)

  free_in : (x : ℕ) → FreeByte t (direct_header t w) n os xs x → (x < m) × (is_free x ≡ true)
  free_in x F =
      let b = S.inside x F.in_body in
      let not_there : in_objects os xs x ≡ true → ⊥ = λ e. let r = in_some os xs x e in F.in_no_object r.0 r.1 in
      (b.0, grind (arith, b.1))

  free-out : (x : ℕ) → x < m → is_free x ≡ true → FreeByte t (direct_header t w) n os xs x
  free-out x u e =
      record {
        in_body = S.back x u (grind (arith, nat_tests));
        in_no_object = λ i A. grind (arith, nat_tests, in-at (spaced I L) x i A);
      }

  -- a test that passes just the free bytes passes all that the bodies hold, less the objects' bytes
  free-count : (q : ℕ → Bool) → ((x : ℕ) → (q x ≡ true) ↔ FreeByte t (direct_header t w) n os xs x)
      → count q m + s.used ≡ c
  free-count q f =
      let same : (x : ℕ) → x < m → q x ≡ is_free x = λ x u.
      let there = λ (e : q x ≡ true). (free_in x ((f x).0 e)).1 in
      let back = λ (e : is_free x ≡ true). (f x).1 (free-out x u e) in
      grind arith in
      let a = count-ext q is_free m same in
      let b = count_less (in_body t (direct_header t w)) (in_objects os xs) m (λ x u. objects-in-bodies x) in
      let d = objects-count (spaced I L) m l in
      let e = S.holds in
      let v = used-sum L in
      omega arith

  -- such a test
  free_test : ℕ → Bool
  free_test x = nat_lt x m && is_free x

  free-test : (x : ℕ) → (free_test x ≡ true) ↔ FreeByte t (direct_header t w) n os xs x
  unfolding free_test
  free-test x = (
    λ e. free-out x (grind (arith, nat_tests)) (grind (arith, nat_tests)),
    λ F. let b = free_in x F in grind (arith, nat_tests),
  )

-- free space is the count of the free bytes
pub free-is-count : (xs : List ℕ) (o b w : ℕ) (p : ManagedPlan) → planned_for xs o b w ≡ Ok p → FreeCounted w xs p
free-is-count xs o b w p e = ⊎_elim bare rowed (shape w xs p w8 went)
  where
    went : Went w xs p
    went = (accepted xs o b w p e).1

    w8 : w ≤ 8
    w8 = legal-small w (accepted xs o b w p e).0.width

    L : Laid fixed w (initial fixed w) xs (plan_offsets fixed w xs)
        (starts_from fixed w (initial fixed w) xs) went.state
    L = ran-laid w xs went.state went.ran

    counted : (c : ℕ) → Span fixed (direct_header fixed w) p.root_rows p.managed_space c
        → p.free_space ≡ c - went.state.used → filled_to went.state ≤ p.managed_space → FreeCounted w xs p
    counted c S f l =
        let every : (q : ℕ → Bool) → ((x : ℕ) → (q x ≡ true) ↔ Free w xs p x) → count q p.managed_space ≡ p.free_space =
        λ q r. omega (arith, free-count fixed (omega arith) (omega arith) w (ran-ok w) L S l q r) in
        let test = free_test fixed (omega arith) (omega arith) w (ran-ok w) L S l in
        let passes = free-test fixed (omega arith) (omega arith) w (ran-ok w) L S l in
        record {
          in_managed_space = λ x F. (free_in fixed (omega arith) (omega arith) w (ran-ok w) L S l x F).0;
          test = test;
          passes_free = passes;
          passes_as_many = every test passes;
          any_as_many = every;
        }

    bare : Bare w xs p went.state → FreeCounted w xs p
    bare B =
        counted (1024 - direct_header fixed w)
        (rw (B.rows, B.managed) (span-bare fixed (direct_header fixed w) (omega arith) (omega arith)))
        B.free (omega (arith, B.managed, B.inside))

    rowed : Rowed w xs p went.state → FreeCounted w xs p
    rowed R =
        counted (capacity fixed (direct_header fixed w) (suc R.n))
        (rw (R.rows, R.managed)
        (span-rows fixed (direct_header fixed w) (omega arith) (omega arith) R.n (omega arith) R.heap))
        R.free (omega (arith, R.managed, R.inside))
