-- Back along parents, and once round the cycle that is met there: what holds after each step, and the chain in the end. Assumes nothing.
use Rattle.std.specs.Prelude.{Option, None, Some}
use Prim.Native.Nat.{ℕ, zero, suc, ◌+◌, ◌-◌, ◌*◌, ◌/◌, ◌%◌, ◌≤◌, ◌<◌}
use native.Mathlib.Nat.{eq-or-lt_of_le}
use native.Mathlib.Numerals.{add-one}
use native.Mathlib.Omega.{arith}
use mathlib.Core.Path.{◌≡◌, refl, ap, ap₂, sym, ◌∙◌, subst}
use mathlib.Core.Logic.{◌≢◌, ⊎_elim}
use mathlib.Core.Bool.{true, cond}
use mathlib.Core.List.{List, [], ◌∷◌, ◌++◌, map, flat_map, map-append}
use lib.Dec.{T, ltb}
use lib.IntN.{ℤ, pos, neg_ℤ, neg_ℤ-neg_ℤ, neg_ℤ-+ℤ, ◌+ℤ◌, ◌-ℤ◌}
use lib.ListN.{length, get_or, set, length-append, length-map}
use Rattle.laws.proofs.Options.{none-ne-some, some-injective}
use Rattle.laws.proofs.Signed.{signed, sum, difference, neg_up, neg_dn, up_sum, dn_sum, Within}
use Rattle.words.specs.Words.{words, with_word, written}
use Rattle.words.proofs.Storing.{written_more, word_behind}
use Rattle.network.specs.Bounds.{Bound}
use Rattle.network.specs.BoundArrays.{bounds_in}
use Rattle.walks.specs.Walks.{Arc}
use Rattle.walks.specs.Solutions.{total}
use Rattle.walks.specs.Parents.{Parents, no_arc, before, repeated, steps_back, trail, Trapped}
use Rattle.walks.proofs.Orbit.{repeated_add}
use Rattle.walks.proofs.Follow.{total_snoc, back_suc, trail_suc}
use Rattle.walks.proofs.Unsettled.{trapped_cycle}
use Rattle.schedule.specs.Timetable.{ways}
use Rattle.schedule.specs.Chain.{Direction, Item, Leg, leg, closed_below_0, direction_number}
use Rattle.schedule.proofs.Chains.{mirror, mirror_cost, mirror_closed}
use Rattle.passes.specs.Solving.{bounds_fit, Pick, leg_at, no_bound, picked_legs, number_of, picked}
use Rattle.passes.specs.Marks.{parents_in, Coded, ChainFound}
use Rattle.passes.proofs.Marks.{map_behind}
use Rattle.passes.proofs.Fitting.{bounds_length, bound_is, arcs_between}
use Rattle.passes.proofs.BothWays.{hi_within}
use Rattle.passes.proofs.ParentArcs.{direction_of, direction_is, Parent, parent, steps_below}

-- ---- back

module _ (m : ℕ) (ends ranges codes : List ℕ) where
  -- the arcs of the bounds, and the parents
  abbrev arcs : List Arc
  arcs = flat_map ways (bounds_in m ends ranges)

  abbrev ps : Parents
  ps = parents_in (bounds_in m ends ranges) codes

  -- the arc of a parent leads one step further back
  pub step_back : (n v j x c : ℕ) → x ≡ steps_back arcs ps j v → Parent m n ends ranges codes x c → get_or ends c 0 ≡ steps_back arcs ps (suc j) v
  step_back n v j x c at p =
      p.begins ∙ sym (back_suc arcs ps j v p.place (ap (λ (y : ℕ). get_or ps y None) (sym at) ∙ p.place_is))

  module _ (n v : ℕ) (fit : bounds_fit n (bounds_in m ends ranges) ≡ true) (low : v < n) where
    -- each event back is among the events
    pub back_below : (j x : ℕ) → x ≡ steps_back arcs ps j v → x < n
    back_below j x at = subst (λ (y : ℕ). y < n) (sym at) (steps_below arcs n ps (omega arith) (arcs_between n (bounds_in m ends ranges) fit) j v low)

    -- and has a parent
    pub back_parent : ((j : ℕ) → get_or ps (steps_back arcs ps j v) None ≢ None) → Coded (bounds_in m ends ranges) codes
        → (j x : ℕ) → x ≡ steps_back arcs ps j v → Parent m n ends ranges codes x (get_or codes x 0 - 1)
    back_parent parented coded j x at =
        parent m n ends ranges codes x fit coded (subst (λ (y : ℕ). get_or ps y None ≢ None) (sym at) (parented j))

-- ---- one item more

-- the leg of the bound at a place that is there
leg_there : (bs : List Bound) (i : ℕ) (d : Direction) → i < length bs → leg_at bs i d ≡ leg (get_or bs i no_bound) d
unfolding leg_at
leg_there [] i d h = absurd (omega arith)
leg_there (b ∷ bs) zero d h = refl
leg_there (b ∷ bs) (suc i) d h = leg_there bs i d (omega arith)

-- its leg behind the others
legs_behind : (bs : List Bound) (is : List Pick) (ls : List Leg) (i : Pick) (l : Leg) → picked_legs bs is ≡ Some ls
    → leg_at bs i.place i.direction ≡ Some l → picked_legs bs (is ++ (i ∷ [])) ≡ Some (ls ++ (l ∷ []))
unfolding picked_legs
legs_behind bs [] ls i l e f =
    ap (λ (o : Option Leg). elim o [ None ↦ None | Some x ↦ Some (x ∷ []) ]) f
    ∙ ap (λ (q : List Leg). Some (q ++ (l ∷ []))) (some-injective _ _ e)
legs_behind bs (y ∷ is) ls i l e f = by (leg_at bs y.place y.direction) (picked_legs bs is) e (λ q g. legs_behind bs is q i l g f) refl
  where
    by : (o : Option Leg) (q : Option (List Leg)) → ◌≡◌ {A = Option (List Leg)} (elim o [ None ↦ None | Some x ↦ elim q [ None ↦ None | Some xs ↦ Some (x ∷ xs) ] ]) (Some ls)
        → ((xs : List Leg) → picked_legs bs is ≡ Some xs → picked_legs bs (is ++ (i ∷ [])) ≡ Some (xs ++ (l ∷ []))) → picked_legs bs is ≡ q
        → ◌≡◌ {A = Option (List Leg)} (elim o [ None ↦ None | Some x ↦ elim (picked_legs bs (is ++ (i ∷ []))) [ None ↦ None | Some xs ↦ Some (x ∷ xs) ] ])
        (Some (ls ++ (l ∷ [])))
    by None q e more g = absurd (none-ne-some _ e)
    by (Some x) None e more g = absurd (none-ne-some _ e)
    by (Some x) (Some xs) e more g =
        ap (λ (o : Option (List Leg)). elim o [ None ↦ None | Some zs ↦ Some (x ∷ zs) ]) (more xs g)
        ∙ ap (λ (zs : List Leg). Some (zs ++ (l ∷ []))) (some-injective _ _ e)

-- its cost, as the code adds it
pub costs_more : (c g : ℕ) (costs costs' adds : ℤ)
    → (c % 2 ≡ 0 → (g ≤ 1_000_000_000_000) × (adds ≡ pos g)) → (c % 2 ≡ 1 → (1 ≤ g) × (adds ≡ neg_ℤ (pos (g - 1)))) → g ≤ 1_000_000_000_001
    → (c % 2 ≡ 0 → costs' ≡ costs -ℤ pos g) → (c % 2 ≡ 1 → costs' ≡ costs +ℤ pos (g - 1))
    → (costs' ≡ costs +ℤ neg_ℤ adds) × Within 1_000_000_000_000 (neg_ℤ adds)
costs_more c g costs costs' adds lower upper small down over = by (c % 2) refl (omega arith)
  where
    by : (r : ℕ) → c % 2 ≡ r → r < 2 → (costs' ≡ costs +ℤ neg_ℤ adds) × Within 1_000_000_000_000 (neg_ℤ adds)
    by zero e h =
        let (w, a) = lower e in
        let d : costs' ≡ costs -ℤ pos g = down e in (
          omega (signed, d, a, difference costs (pos g), sum costs (neg_ℤ adds), neg_up adds, neg_dn adds),
          subst (λ (z : ℤ). Within 1_000_000_000_000 (neg_ℤ z)) (sym a) (hi_within g w),
        )
    by (suc zero) e h =
        let (w, a) = upper e in
        let d : costs' ≡ costs +ℤ pos (g - 1) = over e in (
          omega (signed, d, a, sum costs (pos (g - 1)), sum costs (neg_ℤ adds), neg_up adds, neg_dn adds, neg_up (pos (g - 1)), neg_dn (pos (g - 1))),
          subst (Within 1_000_000_000_000) (sym (ap neg_ℤ a ∙ neg_ℤ-neg_ℤ (pos (g - 1)))) (record { above = omega arith; under = omega arith }),
        )
    by (suc (suc r)) e h = absurd (omega arith)

-- ---- round the cycle

module _ (own m n : ℕ) (ends ranges codes : List ℕ) (start : ℕ) (numbers₀ directions₀ : List ℕ) where
  -- the numbers and the directions of picks, as they are written
  abbrev numbers_of : List Pick → List ℕ
  numbers_of is = map (λ (i : Item). i.number) (map (picked own (bounds_in m ends ranges)) is)

  abbrev directions_of : List Pick → List ℕ
  directions_of is = map (λ (i : Item). direction_number i.direction) (map (picked own (bounds_in m ends ranges)) is)

  -- k items written, on the way round from `start`
  pub record Going (k x : ℕ) (costs : ℤ) (numbers directions : List ℕ) : Type 0 where
    pub event : ℕ
    pub event_below : event < n
    pub trapped : Trapped (arcs m ends ranges codes) n (ps m ends ranges codes) event
    pub starts : start ≡ steps_back (arcs m ends ranges codes) (ps m ends ranges codes) n event
    pub inside : k ≤ trapped.cyclic.period
    pub at : x ≡ steps_back (arcs m ends ranges codes) (ps m ends ranges codes) k start
    pub picks : List Pick
    pub long : length picks ≡ k
    pub legs_are : picked_legs (bounds_in m ends ranges) picks ≡ Some (map mirror (trail (arcs m ends ranges codes) (ps m ends ranges codes) k start))
    pub costs_are : costs ≡ neg_ℤ (total (trail (arcs m ends ranges codes) (ps m ends ranges codes) k start))
    pub small : Within (k * 1_000_000_000_000) costs
    pub numbers_are : numbers ≡ written (words 2 (numbers_of picks)) numbers₀
    pub directions_are : directions ≡ written (directions_of picks) directions₀

  -- and the cycle is not closed yet
  pub record Open (k x : ℕ) (costs : ℤ) (numbers directions : List ℕ) : Type 0 where
    pub going : Going k x costs numbers directions
    pub before_end : k < going.trapped.cyclic.period

  -- before the first item
  pub none_yet : (v : ℕ) → v < n → Trapped (arcs m ends ranges codes) n (ps m ends ranges codes) v
      → start ≡ steps_back (arcs m ends ranges codes) (ps m ends ranges codes) n v → Open 0 start (pos 0) numbers₀ directions₀
  unfolding repeated trail picked_legs total words written
  none_yet v low t s = record {
    going = record {
      event = v;
      event_below = low;
      trapped = t;
      starts = s;
      inside = omega arith;
      at = refl;
      picks = [];
      long = refl;
      legs_are = refl;
      costs_are = refl;
      small = record { above = omega arith; under = omega arith };
      numbers_are = refl;
      directions_are = refl;
    };
    before_end = t.cyclic.positive;
  }

  -- an event on the way
  module _ {k x : ℕ} {costs : ℤ} {numbers directions : List ℕ} (g : Going k x costs numbers directions)
      (fit : bounds_fit n (bounds_in m ends ranges) ≡ true) where
    start_below : start < n
    start_below = back_below m ends ranges codes n g.event fit g.event_below n start g.starts

    -- it is among the events
    pub x_below : x < n
    x_below = back_below m ends ranges codes n start fit start_below k x g.at

    -- and has a parent
    pub x_parent : Coded (bounds_in m ends ranges) codes → Parent m n ends ranges codes x (get_or codes x 0 - 1)
    x_parent coded =
        let arcs' : List Arc = arcs m ends ranges codes in
        let ps' : Parents = ps m ends ranges codes in
        back_parent m ends ranges codes n start fit start_below
        (λ j. subst (λ (y : ℕ). get_or ps' y None ≢ None)
        (sym (ap (steps_back arcs' ps' j) g.starts ∙ sym (repeated_add (before arcs' ps') n j g.event))) (g.trapped.parented (n + j)))
        coded k x g.at

  -- the bound of a code has the number that the code gives it
  numbered : (c : ℕ) → c < 2 * m → cond (ltb (c / 2) own) (c / 2) (10_000 + get_or ends (2 * (c / 2) + 1) 0) ≡ number_of own (bounds_in m ends ranges) (c / 2)
  unfolding number_of
  numbered c h =
      ap (λ (b : Bound). cond (ltb (c / 2) own) (c / 2) (10_000 + b.to)) (sym (bound_is m ends ranges (c / 2) no_bound (omega arith)))

  -- one item more
  pub one_more : {k x : ℕ} {costs : ℤ} {numbers directions : List ℕ} → Open k x costs numbers directions
      → (c : ℕ) → Parent m n ends ranges codes x c → n ≤ 4096 → 8192 ≤ length numbers₀ → 4096 ≤ length directions₀
      → (number : ℕ) (costs' : ℤ) (numbers' directions' : List ℕ)
      → number ≡ cond (ltb (c / 2) own) (c / 2) (10_000 + get_or ends (2 * (c / 2) + 1) 0)
      → numbers' ≡ with_word 2 numbers k number → directions' ≡ set directions k (1 - c % 2)
      → (c % 2 ≡ 0 → costs' ≡ costs -ℤ pos (get_or ranges c 0)) × (c % 2 ≡ 1 → costs' ≡ costs +ℤ pos (get_or ranges c 0 - 1))
      → Going (k + 1) (get_or ends c 0) costs' numbers' directions'
  unfolding picked
  one_more {k} {x} {costs} {numbers} {directions} o c p few wide broad number costs' numbers' directions' e f d w =
      let g : Going k x costs numbers directions = o.going in
      let arcs' : List Arc = arcs m ends ranges codes in
      let ps' : Parents = ps m ends ranges codes in
      let arc : Arc = get_or arcs' p.place no_arc in
      let pick : Pick = record { place = c / 2; direction = direction_of c } in
      let old : List Arc = trail arcs' ps' k start in
      let more : trail arcs' ps' (suc k) start ≡ old ++ (arc ∷ []) =
      trail_suc arcs' ps' k start p.place (ap (λ (y : ℕ). get_or ps' y None) (sym g.at) ∙ p.place_is)
      in
      let (cost-is, cost-small) = costs_more c (get_or ranges c 0) costs costs' arc.adds p.lower p.upper p.small w.0 w.1 in
      let within : Within (k * 1_000_000_000_000) costs = g.small in
      let short : k < n = omega (arith, o.before_end, g.trapped.cyclic.short) in
      let long-numbers : length (numbers_of g.picks) ≡ k = length-map (map (picked own (bounds_in m ends ranges)) g.picks) (λ (i : Item). i.number) ∙ length-map g.picks (picked own (bounds_in m ends ranges)) ∙ g.long in
      let long-directions : length (directions_of g.picks) ≡ k = length-map (map (picked own (bounds_in m ends ranges)) g.picks) (λ (i : Item). direction_number i.direction) ∙ length-map g.picks (picked own (bounds_in m ends ranges)) ∙ g.long in
      rw (add-one k) (record {
        event = g.event;
        event_below = g.event_below;
        trapped = g.trapped;
        starts = g.starts;
        inside = o.before_end;
        at = step_back m ends ranges codes n start k x c g.at p;
        picks = g.picks ++ (pick ∷ []);
        long = length-append g.picks (pick ∷ []) ∙ ap (λ (j : ℕ). j + 1) g.long ∙ add-one k;
        legs_are =
            legs_behind (bounds_in m ends ranges) g.picks (map mirror old) pick (mirror arc) g.legs_are (leg_there (bounds_in m ends ranges) (c / 2) (direction_of c) (omega (arith, p.within, bounds_length m ends ranges)) ∙ p.its_leg)
            ∙ ap Some (sym (map-append mirror old (arc ∷ [])))
            ∙ ap (λ (l : List Arc). Some (map mirror l)) (sym more);
        costs_are =
            cost-is ∙ ap (λ (z : ℤ). z +ℤ neg_ℤ arc.adds) g.costs_are ∙ sym (neg_ℤ-+ℤ (total old) arc.adds)
            ∙ ap neg_ℤ (sym (total_snoc old arc)) ∙ ap (λ (l : List Arc). neg_ℤ (total l)) (sym more);
        small = subst (Within (suc k * 1_000_000_000_000)) (sym cost-is) (record {
          above = omega (arith, within.above, cost-small.above, up_sum costs (neg_ℤ arc.adds));
          under = omega (arith, within.under, cost-small.under, dn_sum costs (neg_ℤ arc.adds));
        });
        numbers_are =
            f ∙ ap₂ (λ (s : List ℕ) (j : ℕ). with_word 2 s j number) g.numbers_are (sym long-numbers)
            ∙ word_behind 2 (numbers_of g.picks) numbers₀ number (omega arith)
            ∙ ap (λ (v : ℕ). written (words 2 (numbers_of g.picks ++ (v ∷ []))) numbers₀) (e ∙ numbered c p.within)
            ∙ ap (λ (ns : List ℕ). written (words 2 ns) numbers₀) (sym (map_behind (λ (i : Item). i.number) (picked own (bounds_in m ends ranges)) g.picks pick));
        directions_are =
            d ∙ ap₂ (λ (s : List ℕ) (j : ℕ). set s j (1 - c % 2)) g.directions_are (sym long-directions)
            ∙ written_more (directions_of g.picks) ((1 - c % 2) ∷ []) directions₀ (omega arith)
            ∙ ap (λ (v : ℕ). written (directions_of g.picks ++ (v ∷ [])) directions₀) (sym (direction_is c))
            ∙ ap (λ (ds : List ℕ). written ds directions₀) (sym (map_behind (λ (i : Item). direction_number i.direction) (picked own (bounds_in m ends ranges)) g.picks pick));
      })

  module _ {k x : ℕ} {costs : ℤ} {numbers directions : List ℕ} (g : Going k x costs numbers directions) where
    abbrev met : ℕ → ℕ
    met j = steps_back (arcs m ends ranges codes) (ps m ends ranges codes) j (steps_back (arcs m ends ranges codes) (ps m ends ranges codes) n g.event)

    here : met k ≡ x
    here = ap (steps_back (arcs m ends ranges codes) (ps m ends ranges codes) k) (sym g.starts) ∙ sym g.at

    -- back where it started, the cycle is closed; elsewhere it is not
    pub goes_on : x ≢ start → Open k x costs numbers directions
    goes_on h = record {
      going = g;
      before_end = ⊎_elim (λ (e : k ≡ g.trapped.cyclic.period). absurd (h (sym here ∙ ap met e ∙ g.trapped.cyclic.closes ∙ sym g.starts))) (λ l. l) (eq-or-lt_of_le g.inside);
    }

    all_round : 0 < k → x ≡ start → k ≡ g.trapped.cyclic.period
    unfolding repeated
    all_round p h = ⊎_elim (λ e. e) (λ l. absurd (g.trapped.cyclic.simple 0 k p l (sym (here ∙ h ∙ g.starts)))) (eq-or-lt_of_le g.inside)

    -- the chain found
    pub found : 0 < k → x ≡ start → ChainFound own (bounds_in m ends ranges) k costs numbers₀ directions₀ numbers directions
    found p h =
        let arcs' : List Arc = arcs m ends ranges codes in
        let ps' : Parents = ps m ends ranges codes in
        let (cycle, trail_is) = trapped_cycle arcs' n ps' g.event g.trapped in
        let same : cycle.first ∷ cycle.rest ≡ trail arcs' ps' k start = trail_is ∙ ap₂ (trail arcs' ps') (sym (all_round p h)) (sym g.starts) in
        record {
          picks = g.picks;
          legs = map mirror (trail arcs' ps' k start);
          legs_are = g.legs_are;
          closed = subst (λ (l : List Arc). T (closed_below_0 (Some (map mirror l)))) same (mirror_closed arcs' n cycle);
          long_is = sym g.long;
          costs_are = g.costs_are ∙ sym (mirror_cost (trail arcs' ps' k start));
          numbers_are = g.numbers_are;
          directions_are = g.directions_are;
        }
