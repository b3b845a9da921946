-- The passes one after another, in arrays: what holds before each, and what the last of them says. Assumes nothing.
use Rattle.std.specs.Prelude.{Option, None, Some}
use Prim.Native.Nat.{ℕ, zero, suc, ◌+◌, ◌-◌, ◌*◌, ◌≤◌, ◌<◌}
use native.Mathlib.Numerals.{add-one}
use native.Mathlib.Omega.{arith}
use mathlib.Core.Path.{◌≡◌, refl, ap, ap₂, sym, ◌∙◌, subst}
use mathlib.Core.Logic.{◌≢◌}
use mathlib.Core.Bool.{Bool, true, false}
use mathlib.Core.List.{List, ◌∷◌, map, flat_map}
use lib.Dec.{T}
use lib.IntN.{ℤ}
use lib.ListN.{length, get_or, replicate, length-map}
use Rattle.laws.proofs.Signed.{Within}
use Rattle.laws.proofs.Tests.{passes, fails}
use Rattle.network.specs.Bounds.{Bound}
use Rattle.walks.specs.Walks.{Arc}
use Rattle.walks.specs.Passes.{Sums, pass, at_start, sums, first_agreeing, pass_number, settled}
use Rattle.walks.specs.Parents.{Parents, adopt_all, parents, steps_back, Trapped}
use Rattle.walks.proofs.Greatest.{sums_length}
use Rattle.walks.proofs.Outcome.{parents_length}
use Rattle.walks.proofs.PassNumber.{agree_eq, still, agrees_of}
use Rattle.walks.proofs.Range.{sums_within}
use Rattle.walks.proofs.Trap.{raised_trapped}
use Rattle.schedule.specs.Timetable.{ways}
use Rattle.passes.specs.declared.Found.{Found}
use Rattle.passes.specs.Solving.{bounds_fit}
use Rattle.passes.specs.Marks.{low, sums_in, arc_place, parents_in, Coded, CycleFound, Finds, finds_cycle}
use Rattle.passes.proofs.Codes.{none_coded}
use Rattle.passes.proofs.Fitting.{arcs_between, arcs_within}
use Rattle.passes.proofs.Marks.{sum_at_injective, sum_of, sums_in_length}

-- ---- the first pass that agrees

module _ (arcs : List Arc) (n : ℕ) where
  -- one that agrees is the one looked for
  agreeing : (f k : ℕ) → 0 < f → T (still arcs n k) → first_agreeing arcs n f k ≡ Some k
  unfolding first_agreeing
  agreeing zero k h t = absurd (omega arith)
  agreeing (suc f) k h t =
      ap (λ (b : Bool). elim b [ true ↦ Some k | false ↦ first_agreeing arcs n f (suc k) ]) (passes (still arcs n k) t)

  -- one that does not is passed over
  passed_over : (f k : ℕ) → ¬ T (still arcs n k) → first_agreeing arcs n (suc f) k ≡ first_agreeing arcs n f (suc k)
  unfolding first_agreeing
  passed_over f k h = ap (λ (b : Bool). elim b [ true ↦ Some k | false ↦ first_agreeing arcs n f (suc k) ]) (fails (still arcs n k) h)

  -- among none there is none
  none_left : (k : ℕ) → first_agreeing arcs n 0 k ≡ None
  unfolding first_agreeing
  none_left k = refl

  -- what is looked for settles the passes
  settles_at : (k : ℕ) → first_agreeing arcs n n 0 ≡ Some k → settled arcs n ≡ Some (record { passes = k; sums = sums arcs n k })
  unfolding settled pass_number
  settles_at k e = ap (λ (o : Option ℕ). elim o [ None ↦ None | Some k ↦ Some (record { passes = k; sums = sums arcs n k }) ]) e

  settles_never : first_agreeing arcs n n 0 ≡ None → settled arcs n ≡ None
  unfolding settled pass_number
  settles_never e = ap (λ (o : Option ℕ). elim o [ None ↦ None | Some k ↦ Some (record { passes = k; sums = sums arcs n k }) ]) e

-- no event has a parent at first
map_replicate : {A B : Type 0} (f : A → B) (n : ℕ) (a : A) → map f (replicate n a) ≡ replicate n (f a)
map_replicate f zero a = refl
map_replicate {A} {B} f (suc n) a = ap (λ (l : List B). f a ∷ l) (map_replicate f n a)

-- an event is raised for ever
pub record RaisedOn (bs : List Bound) (n : ℕ) (codes : List ℕ) (v : ℕ) : Type 0 where
  pub unsettled : settled (flat_map ways bs) n ≡ None
  pub below : v < n
  pub trapped : Trapped (flat_map ways bs) n (parents_in bs codes) v
  pub coded : Coded bs codes

module _ (bs : List Bound) (n : ℕ) where
  -- before pass k + 1: the sums and parents of k passes, none of which agreed; `raised` is an event that the last of them raised
  pub record Round (k raised : ℕ) (old new : List ℤ) (ps : List ℕ) : Type 0 where
    pub inside : k ≤ n
    pub long : length old ≡ n
    pub alike : new ≡ old
    pub values : sums_in old ≡ sums (flat_map ways bs) n k
    pub coded : Coded bs ps
    pub led : parents_in bs ps ≡ parents (flat_map ways bs) n k
    pub none_yet : first_agreeing (flat_map ways bs) n n 0 ≡ first_agreeing (flat_map ways bs) n (n - k) k
    pub last_raised : (j : ℕ) → k ≡ suc j
        → (raised < n) × (get_or (sums (flat_map ways bs) n (suc j)) raised None ≢ get_or (sums (flat_map ways bs) n j) raised None)

  -- before the first
  pub first_round : (old new : List ℤ) (ps : List ℕ) → length old ≡ n → sums_in old ≡ at_start n → new ≡ old → ps ≡ replicate n 0 → Round 0 0 old new ps
  unfolding sums parents parents_in arc_place
  first_round old new ps l s a p =
      let z : n - 0 ≡ n = omega arith in
      record {
        inside = omega arith;
        long = l;
        alike = a;
        values = s;
        coded = subst (Coded bs) (sym p) (none_coded bs n);
        led = ap (map (arc_place bs)) p ∙ map_replicate (arc_place bs) n 0;
        none_yet = ap (λ (f : ℕ). first_agreeing (flat_map ways bs) n f 0) (sym z);
        last_raised = λ j e. absurd (omega arith);
      }

module _ {bs : List Bound} {n k raised : ℕ} {old new : List ℤ} {ps : List ℕ} (r : Round bs n k raised old new ps) where
  -- there is a parent, or none, for each event
  pub parents_long : length ps ≡ n
  unfolding parents_in
  parents_long = sym (length-map ps (arc_place bs)) ∙ ap length r.led ∙ parents_length (flat_map ways bs) n k

  -- the sums are within the range that a pass asks for
  pub in_range : bounds_fit n bs ≡ true → n ≤ 4096 → (v : ℕ) (x : ℤ) → get_or (sums_in old) v None ≡ Some x → Within 4096000000000000 x
  in_range f m v x e =
      let w : Within (k * 1_000_000_000_000) x =
      sums_within (flat_map ways bs) 1_000_000_000_000 (arcs_within n bs f) n k v x (ap (λ (s : Sums). get_or s v None) (sym r.values) ∙ e)
      in
      record { above = omega (arith, r.inside, w.above); under = omega (arith, r.inside, w.under) }

  -- pass k + 1 and the copy of its sums
  module _ (new' : List ℤ) (ps' : List ℕ) (s : sums_in new' ≡ pass (flat_map ways bs) (sums_in old))
      (p : parents_in bs ps' ≡ adopt_all (flat_map ways bs) 0 (sums_in old) (sums_in old) (parents_in bs ps))
      (c : Coded bs ps → Coded bs ps') where
    values' : sums_in new' ≡ sums (flat_map ways bs) n (suc k)
    unfolding sums
    values' = s ∙ ap (pass (flat_map ways bs)) r.values

    led' : parents_in bs ps' ≡ parents (flat_map ways bs) n (suc k)
    unfolding parents
    led' = p ∙ ap₂ (λ (x : Sums) (y : Parents). adopt_all (flat_map ways bs) 0 x x y) r.values r.led

    -- there are as many sums
    pub new_long : length new' ≡ n
    new_long = sym (sums_in_length new') ∙ ap length values' ∙ sums_length (flat_map ways bs) n (suc k)

    -- nothing changed: they have settled
    pub unchanged : k < n → old ≡ new' → (old' : List ℤ) → old' ≡ new' → settled (flat_map ways bs) n ≡ Some (record { passes = k; sums = sums_in old' })
    unchanged h e old' q =
        let same : sums (flat_map ways bs) n k ≡ sums (flat_map ways bs) n (suc k) = sym r.values ∙ ap sums_in e ∙ values' in
        let t : first_agreeing (flat_map ways bs) n n 0 ≡ Some k =
        r.none_yet ∙ agreeing (flat_map ways bs) n (n - k) k (omega arith) (agrees_of (flat_map ways bs) n k same)
        in
        let same-sums : sums (flat_map ways bs) n k ≡ sums_in old' = sym r.values ∙ ap sums_in (e ∙ sym q) in
        settles_at (flat_map ways bs) n k t ∙ ap (λ (x : Sums). Some (record { passes = k; sums = x })) same-sums

    -- something changed: another pass
    pub changed : k < n → (v : ℕ) → v < n → (get_or old v low ≡ get_or new' v low → ⊥) → (old' : List ℤ) → old' ≡ new' → Round bs n (k + 1) v old' new' ps'
    changed h v l d old' q =
        let up : get_or (sums (flat_map ways bs) n (suc k)) v None ≢ get_or (sums (flat_map ways bs) n k) v None =
        λ e. d (sum_at_injective (get_or old v low) (get_or new' v low)
        (sym (sum_of old v) ∙ ap (λ (x : Sums). get_or x v None) r.values ∙ sym e ∙ ap (λ (x : Sums). get_or x v None) (sym values') ∙ sum_of new' v))
        in
        let f : n - k ≡ suc (n - suc k) = omega arith in
        rw (add-one k) (record {
          inside = h;
          long = ap length q ∙ new_long;
          alike = sym q;
          values = ap sums_in q ∙ values';
          coded = c r.coded;
          led = led';
          none_yet =
              r.none_yet ∙ ap (λ (j : ℕ). first_agreeing (flat_map ways bs) n j k) f
              ∙ passed_over (flat_map ways bs) n (n - suc k) k
              (λ t. up (ap (λ (x : Sums). get_or x v None) (sym (agree_eq (sums (flat_map ways bs) n k) (sums (flat_map ways bs) n (suc k)) t))));
          last_raised = λ j e.
              let z : k ≡ j = omega arith in
              (l, subst (λ (i : ℕ). get_or (sums (flat_map ways bs) n (suc i)) v None ≢ get_or (sums (flat_map ways bs) n i) v None) z up);
        })

  -- as many passes as events, and the last still raised one
  pub never : 0 < n → bounds_fit n bs ≡ true → n ≤ k → RaisedOn bs n ps raised
  never h f m = by k refl
    where
      by : (i : ℕ) → k ≡ i → RaisedOn bs n ps raised
      by zero e = absurd (omega (arith, r.inside))
      by (suc j) e =
          let w : suc j ≡ n = omega (arith, r.inside) in
          let z : n - k ≡ 0 = omega arith in
          let up = r.last_raised j e in
          record {
            unsettled = settles_never (flat_map ways bs) n (r.none_yet ∙ ap (λ (g : ℕ). first_agreeing (flat_map ways bs) n g k) z ∙ none_left (flat_map ways bs) n k);
            below = up.0;
            trapped =
                subst (λ (q : Parents). Trapped (flat_map ways bs) n q raised) (ap (parents (flat_map ways bs) n) (sym e) ∙ sym r.led)
                (raised_trapped (flat_map ways bs) n h (arcs_between n bs f) j raised w up.0 up.1);
            coded = r.coded;
          }

-- back from there is an event on a cycle
pub looped : (bs : List Bound) (n : ℕ) (sums : List ℤ) (ps : List ℕ) (v x : ℕ) → length ps ≡ n → RaisedOn bs n ps v
    → x ≡ steps_back (flat_map ways bs) (parents_in bs ps) n v → Finds bs n sums ps (Found.Looped x)
looped bs n sums ps v x l r at =
    finds_cycle x l r.coded
    (subst (λ (i : ℕ). x ≡ steps_back (flat_map ways bs) (parents_in bs ps) i v → RaisedOn bs i ps v → CycleFound bs ps x) l
    (λ e q. record { unsettled = q.unsettled; event = v; below = q.below; trapped = q.trapped; starts = e }) at r)
