-- What refusals 7, 8 and 9 make of what was found. Assumes nothing.
use Rattle.std.specs.Prelude.{None, Some, Err, Ok}
use Prim.Native.Nat.{ℕ, ◌*◌, ◌≤◌}
use native.Mathlib.Omega.{arith}
use mathlib.Core.Path.{◌≡◌, refl, ap, ap₂, sym, ◌∙◌}
use Rattle.floor.specs.declared.Refusal.{Refusal}
use Rattle.floor.specs.Refusal.{Judged}
use mathlib.Core.Bool.{Bool, true, false, true≢false}
use mathlib.Core.List.{List}
use lib.ListN.{length}
use Rattle.floor.specs.declared.Reason.TheVariants.{OffRoad, SameCell, Exchange}
use Rattle.floor.specs.declared.Table.TheVariants.{Paths}
use Rattle.floor.specs.declared.Road.{Road}
use Rattle.floor.specs.Paths.{read_paths, steps, off_road, first_same_cell, first_exchange}
use Rattle.collisions.specs.declared.Meeting.{Meeting}
use Rattle.collisions.specs.declared.Paths.{Paths as Grid}
use Rattle.collisions.specs.Meetings.{paths_in, paths_of, meeting, refusal_of}
use Rattle.tables.specs.Reading.{accepted, apart, read_apart}
use Rattle.tables.specs.Arrays.{path_cells}
use Rattle.words.specs.Words.{padded}
use Rattle.tables.proofs.PathTurns.{read_paths_held}
use Rattle.collisions.proofs.Found.{same_is, exchange_is}
use Rattle.floor.proofs.Judging.{goes_on, ends, clear, meets, none_found_accepted, accepted_same}

module _ (rs : List Road) (ps : List (List ℕ)) where
  -- what is kept is what was there
  pub apart_are : (qs : List (List ℕ)) → apart rs ps ≡ Ok qs → ps ≡ qs
  unfolding apart
  apart_are qs e =
      let (_, e1) = none_found_accepted (off_road rs 1 ps) OffRoad _ qs e in
      let (_, e2) = none_found_accepted (first_same_cell ps) SameCell _ qs e1 in
      let (_, e3) = none_found_accepted (first_exchange ps) Exchange _ qs e2 in
      accepted_same ps qs e3

  -- a path off the roads
  pub apart_off : (i : ℕ) → off_road rs 1 ps ≡ Some i → apart rs ps ≡ Err (record { reason = OffRoad; table = Paths; row = i })
  unfolding apart
  apart_off i e = meets (off_road rs 1 ps) OffRoad _ i e

  module _ (on : off_road rs 1 ps ≡ None) where
    -- two carts in one cell
    pub apart_same : (i : ℕ) → first_same_cell ps ≡ Some i → apart rs ps ≡ Err (record { reason = SameCell; table = Paths; row = i })
    unfolding apart
    apart_same i e = clear (off_road rs 1 ps) OffRoad _ on ∙ meets (first_same_cell ps) SameCell _ i e

    module _ (alone : first_same_cell ps ≡ None) where
      -- two that exchange cells
      pub apart_exchange : (i : ℕ) → first_exchange ps ≡ Some i → apart rs ps ≡ Err (record { reason = Exchange; table = Paths; row = i })
      unfolding apart
      apart_exchange i e = clear (off_road rs 1 ps) OffRoad _ on ∙ clear (first_same_cell ps) SameCell _ alone ∙ meets (first_exchange ps) Exchange _ i e

      -- neither
      pub apart_kept : first_exchange ps ≡ None → apart rs ps ≡ Ok ps
      unfolding apart
      apart_kept e = clear (off_road rs 1 ps) OffRoad _ on ∙ clear (first_same_cell ps) SameCell _ alone ∙ clear (first_exchange ps) Exchange _ e

-- ---- after the table of paths

module _ (rs : List Road) (carts : ℕ) (t : List ℕ) where
  -- a table that is refused
  pub apart_first : (r : Refusal) → read_paths carts t ≡ Err r → read_apart rs carts t ≡ Err r
  unfolding read_apart
  apart_first r e = ends (read_paths carts t) (apart rs) r e

  module _ (ps : List (List ℕ)) (e : read_paths carts t ≡ Ok ps) where
    -- paths that are read, as their array holds them
    pub apart_after : (size : ℕ) (s : List ℕ) → s ≡ padded size (path_cells ps) → (k w : ℕ) → k ≡ length ps → w ≡ steps ps
        → read_apart rs carts t ≡ apart rs (paths_in k w s)
    unfolding read_apart
    apart_after size s h k w a b =
        goes_on (read_paths carts t) (apart rs) ps e
        ∙ ap (apart rs)
        (sym (ap (λ (x : ℕ). paths_in x w s) a ∙ ap (λ (x : ℕ). paths_in (length ps) x s) b ∙ ap (paths_in (length ps) (steps ps)) h ∙ read_paths_held size carts t ps e))

    -- those that are kept are they
    pub apart_they : (qs : List (List ℕ)) → read_apart rs carts t ≡ Ok qs → qs ≡ ps
    unfolding read_apart
    apart_they qs f = sym (apart_are rs ps qs (sym (goes_on (read_paths carts t) (apart rs) ps e) ∙ f))

-- ---- of paths in an array

module _ (rs : List Road) (p : Grid) (n w : ℕ) (s : List ℕ) (cells : p.cells.now ≡ s) (carts : p.carts ≡ n) (wide : p.steps ≡ w) where
  -- they are those of these numbers
  same : paths_of p ≡ paths_in n w s
  same = ap (λ (x : ℕ). paths_in x p.steps p.cells.now) carts ∙ ap (λ (x : ℕ). paths_in n x p.cells.now) wide ∙ ap (paths_in n w) cells

  said : {x : Judged (Unit {0})} → x ≡ accepted (apart rs (paths_of p)) → x ≡ accepted (apart rs (paths_in n w s))
  said e = e ∙ ap (λ (ps : List (List ℕ)). accepted (apart rs ps)) same

  -- a path off the roads
  pub judged_off : (i : ℕ) → Some i ≡ off_road rs 1 (paths_of p) → Err (record { reason = OffRoad; table = Paths; row = i }) ≡ accepted (apart rs (paths_in n w s))
  unfolding accepted
  judged_off i e = said (rw (apart_off rs (paths_of p) i (sym e)))

  module _ (on : None ≡ off_road rs 1 (paths_of p)) (fits : n * w ≤ length s) where
    there : p.carts * p.steps ≤ length p.cells.now
    there = omega (arith, ap₂ (λ (x y : ℕ). x * y) carts wide, ap (length {A = ℕ}) cells, fits)

    -- two carts in one cell
    judged_same : (i : ℕ) → Some (Meeting.SameCell i) ≡ meeting p
        → Err (record { reason = SameCell; table = Paths; row = i }) ≡ accepted (apart rs (paths_in n w s))
    unfolding accepted
    judged_same i m = said (rw (apart_same rs (paths_of p) (sym on) i (same_is p there m)))

    -- two that exchange cells
    judged_exchange : (i : ℕ) → Some (Meeting.Exchange i) ≡ meeting p
        → Err (record { reason = Exchange; table = Paths; row = i }) ≡ accepted (apart rs (paths_in n w s))
    unfolding accepted
    judged_exchange i m = said (rw (apart_exchange rs (paths_of p) (sym on) (same_is p there m) i (exchange_is p there m refl)))

    -- either
    pub judged_met : (m : Meeting) → Some m ≡ meeting p → Err (refusal_of m) ≡ accepted (apart rs (paths_in n w s))
    unfolding refusal_of
    judged_met (Meeting.SameCell i) m = judged_same i m
    judged_met (Meeting.Exchange i) m = judged_exchange i m

    -- neither
    pub judged_kept : None ≡ meeting p → Ok tt ≡ accepted (apart rs (paths_in n w s))
    unfolding accepted
    judged_kept m = said (rw (apart_kept rs (paths_of p) (sym on) (same_is p there m) (exchange_is p there m refl)))

-- ---- for a caller

-- whether it is accepted, and why not
passes : Judged (Unit {0}) → Bool
passes (Ok u) = true
passes (Err r) = false

why_not : Refusal → Judged (Unit {0}) → Refusal
why_not d (Ok u) = d
why_not d (Err r) = r

-- what is accepted is there
pub accepted_there : {A : Type 0} (j : Judged A) {u : Unit {0}} → Ok u ≡ accepted j → (a : A) × (j ≡ Ok a)
unfolding accepted passes
accepted_there (Err r) e = absurd (true≢false (ap passes e))
accepted_there (Ok a) e = (a, refl)

-- what is not is refused
pub accepted_refused : {A : Type 0} (j : Judged A) (r : Refusal) → Err r ≡ accepted j → j ≡ Err r
unfolding accepted passes why_not
accepted_refused (Err q) r e = ap Err (sym (ap (why_not q) e))
accepted_refused (Ok a) r e = absurd (true≢false (sym (ap passes e)))
