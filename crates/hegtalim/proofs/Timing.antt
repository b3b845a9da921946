-- A timetable from the bounds of the plan that is held: times or a chain, as the passes find them. Assumes nothing.
use Rattle.std.specs.Prelude.{Option, None, Some, Ok, Err}
use Prim.Native.Nat.{ℕ, zero, suc, ◌+◌, ◌*◌, ◌≤◌, ◌<◌}
use native.Mathlib.Omega.{arith}
use mathlib.Core.Path.{◌≡◌, refl, ap, ap₂, sym, ◌∙◌, subst}
use mathlib.Core.Logic.{◌⊎◌, inl, inr}
use mathlib.Core.Bool.{Bool, true, true≢false, ◌&&◌, cond}
use mathlib.Core.List.Memᴰ
use mathlib.Core.List.{List, [], ◌∷◌, ◌++◌, map, flat_map, Memᴰ}
use lib.Dec.{T, leb, leb→le}
use lib.ListN.{length, get_or, drop, length-map, length-append}
use lib.Seq.{sets, length-sets}
use mir.Facts.{and_yes}
use borrow.Author.Tests.{le-leb, lt-ltb, le-ltb}
use Rattle.laws.proofs.Options.{none-ne-some}
use Rattle.laws.proofs.Members.{at_place}
use Rattle.laws.proofs.Tests.{passes, below_or_not}
use Rattle.words.specs.Words.{written}
use Rattle.floor.specs.Plan.{Plan}
use Rattle.network.specs.Events.{event_count}
use Rattle.network.specs.Bounds.{Bound, bounds}
use Rattle.network.specs.BoundArrays.{bound_ends, hi_number, bound_range, bounds_in}
use Rattle.network.proofs.Routes.{event_count_is}
use Rattle.network.proofs.Judged.{judged}
use Rattle.network.proofs.ReadBack.{bounds_held}
use Rattle.network.proofs.BoundStores.{by_ends, by_range, pairs_length, front_stored}
use Rattle.schedule.specs.Book.{Book}
use Rattle.schedule.specs.Added.{added_bounds, all_bounds, numbered_bounds}
use Rattle.schedule.specs.Timetable.{arcs, timetable}
use Rattle.schedule.specs.Chain.{Direction, Item, Leg, leg, legs, closed_below_0, is_chain}
use Rattle.schedule.specs.Lent.{Lent, long_enough, chain_written}
use Rattle.schedule.proofs.Logged.{Logged, logged_kept, some_event, bound_ends as ends_below, bound_most}
use Rattle.schedule.proofs.Numbers.{Leads, added_few, added_number, own_place}
use Rattle.schedule.proofs.Legs.{legs_cons}
use Rattle.slice.specs.PlanSlice.{plan_need, Held, held}
use Rattle.slice.proofs.Slice.{held_says}
use Rattle.passes.specs.declared.Solved.{Solved}
use Rattle.passes.specs.Solving.{bounds_fit, network_fits, times_of, Pick, leg_at, no_bound, picked_legs, number_of, picked, Solves, timed, cycle, Solving, unfit, solved}
use Rattle.passes.proofs.Fitting.{Fitting, fitting_passes}
use Rattle.hegtalim.specs.declared.TimeError.{TimeError}
use Rattle.hegtalim.specs.Answers.{Timed}
use Rattle.hegtalim.specs.Outcomes.{meets_needs, Timetabled, no_times}
use Rattle.hegtalim.specs.Outcomes as outcomes
use Rattle.hegtalim.specs.Working.{Worked, done, no_room}

-- the answer to what is found
abbrev pub told : Option Solved → Timed
told None = (Err TimeError.TooShort)
told (Some (Solved.Times k)) = Ok k
told (Some (Solved.Cycle c)) = Err (TimeError.NoTimes c.length)

-- ---- a chain by places is one by numbers

module _ (p : Plan) (b : Book) (l : Logged p b) where
  abbrev bs : List Bound
  bs = all_bounds p b

  abbrev own : ℕ
  own = length (bounds p)

  few : own ≤ 8192
  few = (judged l.tables p l.of_tables).2

  -- the bound at a place, and that there is one
  leg_is : (cs : List Bound) (i : ℕ) (d : Direction) (x : Leg) → leg_at cs i d ≡ Some x → (i < length cs) × (leg (get_or cs i no_bound) d ≡ Some x)
  unfolding leg_at
  leg_is [] i d x e = absurd (none-ne-some _ e)
  leg_is (c ∷ cs) zero d x e = (omega arith, e)
  leg_is (c ∷ cs) (suc i) d x e = let (h, q) = leg_is cs i d x e in (omega (arith, h), q)

  -- what stands in the first of two lists, and in the second
  in_first : (xs ys : List Bound) (i : ℕ) (d e : Bound) → i < length xs → get_or xs i e ≡ get_or (xs ++ ys) i d
  in_first [] ys i d e h = absurd (omega arith)
  in_first (x ∷ xs) ys zero d e h = refl
  in_first (x ∷ xs) ys (suc i) d e h = in_first xs ys i d e (omega arith)

  in_second : (xs ys : List Bound) (i : ℕ) (d : Bound) → length xs ≤ i → i < length (xs ++ ys) → Memᴰ (get_or (xs ++ ys) i d) ys
  in_second [] ys i d h k = at_place ys i d k
  in_second (x ∷ xs) ys zero d h k = absurd (omega arith)
  in_second (x ∷ xs) ys (suc i) d h k = in_second xs ys i d (omega arith) (omega arith)

  -- the number of the bound at a place leads to it
  number_leads : (i : ℕ) → i < length bs → Leads (numbered_bounds p b) (get_or bs i no_bound) (number_of own bs i)
  unfolding all_bounds number_of
  number_leads i h = by (below_or_not i own)
    where
      c : Bound
      c = get_or bs i no_bound

      by : (i < own) ⊎ (own ≤ i) → Leads (numbered_bounds p b) c (number_of own bs i)
      by (inl k) =
          subst (Leads (numbered_bounds p b) c) (sym (ap (λ (t : Bool). cond t i (10_000 + c.to)) (lt-ltb i own k)))
          (own_place p b i c k (in_first (bounds p) (added_bounds p b) i no_bound c k))
      by (inr k) =
          subst (Leads (numbered_bounds p b) c) (sym (ap (λ (t : Bool). cond t i (10_000 + c.to)) (le-ltb i own k)))
          (added_number p b (logged_kept p b l) few c (in_second (bounds p) (added_bounds p b) i no_bound k h))

  -- so the legs are the same
  legs_picked : (is : List Pick) (ls : List Leg) → picked_legs bs is ≡ Some ls → legs (numbered_bounds p b) (map (picked own bs) is) ≡ Some ls
  unfolding picked_legs legs picked
  legs_picked [] ls e = e
  legs_picked (i ∷ is) ls e = by (leg_at bs i.place i.direction) (picked_legs bs is) refl refl e (legs_picked is)
    where
      by : (o : Option Leg) (q : Option (List Leg)) → leg_at bs i.place i.direction ≡ o → picked_legs bs is ≡ q
          → ◌≡◌ {A = Option (List Leg)} (elim o [ None ↦ None | Some x ↦ elim q [ None ↦ None | Some xs ↦ Some (x ∷ xs) ] ]) (Some ls)
          → ((xs : List Leg) → picked_legs bs is ≡ Some xs → legs (numbered_bounds p b) (map (picked own bs) is) ≡ Some xs)
          → legs (numbered_bounds p b) (map (picked own bs) (i ∷ is)) ≡ Some ls
      by None q a c e more = absurd (none-ne-some _ e)
      by (Some x) None a c e more = absurd (none-ne-some _ e)
      by (Some x) (Some xs) a c e more =
          let (h, g) = leg_is bs i.place i.direction x a in
          legs_cons (numbered_bounds p b) (picked own bs i) (map (picked own bs) is) x xs
          ((number_leads i.place h).leads i.direction ∙ g) (more xs c)
          ∙ e

  -- ---- the network fits

  -- each bound
  each_fit : (cs : List Bound) (n : ℕ) → ((c : Bound) → Memᴰ c cs → Fitting n c) → bounds_fit n cs ≡ true
  unfolding bounds_fit
  each_fit [] n h = refl
  each_fit (c ∷ cs) n h =
      ap (λ (x : Bool). x && bounds_fit n cs) (fitting_passes n c (h c (Memᴰ.head refl))) ∙ each_fit cs n (λ x m. h x (Memᴰ.tail m))

  -- a hi as a number
  hi_small : (o : Option ℕ) → ((h : ℕ) → o ≡ Some h → h ≤ 1_000_000_000_000) → hi_number o ≤ 1_000_000_000_001
  unfolding hi_number
  hi_small None g = omega arith
  hi_small (Some h) g = omega (arith, g h refl)

  -- all of them
  bounds_fits : bounds_fit (event_count p) bs ≡ true
  bounds_fits = each_fit bs (event_count p) (λ c m.
      let (f, t) = ends_below p b l c m in
      let (lo, hi) = bound_most p b l c m in
      record { from_in = f; to_in = t; lo_fits = lo; hi_fits = hi_small c.hi hi })

  -- how many events and bounds there are
  events_few : event_count p ≤ 4096
  events_few = (judged l.tables p l.of_tables).1

  bounds_many : length bs ≤ 12_288
  unfolding all_bounds
  bounds_many =
      let added : length (added_bounds p b) < event_count p =
      added_few p b (logged_kept p b l) (event_count p) (omega (arith, event_count_is p)) (λ c m. (ends_below p b l c (Memᴰ.append_right (bounds p) m)).1) in
      omega (arith, added, events_few, few, length-append (bounds p) (added_bounds p b))

  -- the bounds read from the arrays to which they were written
  module _ (ends₀ ranges₀ ends ranges : List ℕ) (ends-are : ends ≡ sets ends₀ 0 (flat_map bound_ends bs)) (ranges-are : ranges ≡ sets ranges₀ 0 (flat_map bound_range bs)) where
    -- the arrays are as long as they were
    pub ends_long : length ends ≡ length ends₀
    ends_long = ap length ends-are ∙ length-sets ends₀ 0 (flat_map bound_ends bs)

    pub ranges_long : length ranges ≡ length ranges₀
    ranges_long = ap length ranges-are ∙ length-sets ranges₀ 0 (flat_map bound_range bs)

    -- where there is room they are all there
    pub bounds_there : 2 * length bs ≤ length ends₀ → 2 * length bs ≤ length ranges₀ → bounds_in (length bs) ends ranges ≡ bs
    unfolding written
    bounds_there he hr =
        ap₂ (bounds_in (length bs)) (ends-are ∙ front_stored (flat_map bound_ends bs) ends₀ (omega (arith, he, pairs_length bound_ends by_ends bs)))
        (ranges-are ∙ front_stored (flat_map bound_range bs) ranges₀ (omega (arith, hr, pairs_length bound_range by_range bs)))
        ∙ bounds_held bs (drop (length (flat_map bound_ends bs)) ends₀) (drop (length (flat_map bound_range bs)) ranges₀)

    -- and fit
    pub network_there : 24_576 ≤ length ends₀ → 24_576 ≤ length ranges₀ → network_fits (length bs) (event_count p) ends ranges ≡ true
    unfolding network_fits
    network_there he hr =
        let many : length bs ≤ 12_288 = bounds_many in
        let fit : bounds_fit (event_count p) (bounds_in (length bs) ends ranges) ≡ true = ap (bounds_fit (event_count p)) (bounds_there (omega (arith, many, he)) (omega (arith, many, hr))) ∙ bounds_fits in
        simp (le-leb (length bs) 12_288 many, le-leb (2 * length bs) (length ends) (omega (arith, many, he, ends_long)), le-leb (2 * length bs) (length ranges) (omega (arith, many, hr, ranges_long)), le-leb 1 (event_count p) (some_event p b l), le-leb (event_count p) 4096 events_few, fit)

-- a network that fits has room for its bounds
fits_says : (m n : ℕ) (ends ranges : List ℕ) (more : Bool) → (network_fits m n ends ranges && more) ≡ true → (2 * m ≤ length ends) × (2 * m ≤ length ranges)
unfolding network_fits
fits_says m n ends ranges more e =
    let to-events : Bool = leb m 12_288 && leb (2 * m) (length ends) && leb (2 * m) (length ranges) && leb 1 n && leb n 4096 in
    let (fits, _) = and_yes (network_fits m n ends ranges) more (subst T (sym e) tt) in
    let (a, _) = and_yes to-events (bounds_fit n (bounds_in m ends ranges)) fits in
    let (c, _) = and_yes (leb m 12_288 && leb (2 * m) (length ends) && leb (2 * m) (length ranges) && leb 1 n) (leb n 4096) a in
    let (d, _) = and_yes (leb m 12_288 && leb (2 * m) (length ends) && leb (2 * m) (length ranges)) (leb 1 n) c in
    let (f, r) = and_yes (leb m 12_288 && leb (2 * m) (length ends)) (leb (2 * m) (length ranges)) d in
    let (_, g) = and_yes (leb m 12_288) (leb (2 * m) (length ends)) f in
    (leb→le (2 * m) (length ends) g, leb→le (2 * m) (length ranges) r)

-- ---- what is found

module _ (s : List ℕ) (h : Held) (e : held s ≡ Some h) (lent : Lent) (met : meets_needs s lent ≡ true) where
  -- the plan and the book of a log
  pub logged : Logged h.plan h.book
  logged = let (_, j, r, _) = held_says s h e in record { tables = h.tables; of_tables = j; log = h.log; replayed = r }

  abbrev all : List Bound
  all = all_bounds h.plan h.book

  abbrev its_own : ℕ
  its_own = length (bounds h.plan)

  -- times or a chain of its bounds are a timetable's
  by_bounds : (a : Solved) (lent' : Lent) → Solves its_own (event_count h.plan) all lent a lent' → Timetabled s lent (told (Some a)) lent'
  unfolding times_of timetable arcs is_chain
  by_bounds a lent' (timed t q) = outcomes.timed met h e t q
  by_bounds a lent' (cycle q is ls k c) =
      let items : List Item = map (picked its_own all) is in
      let chain : T (closed_below_0 (legs (numbered_bounds h.plan h.book) items)) =
      subst (λ (o : Option (List Leg)). T (closed_below_0 o)) (sym (legs_picked h.plan h.book logged is ls k)) c in
      subst (λ (n : ℕ). Timetabled s lent (Err (TimeError.NoTimes n)) (chain_written items lent)) (length-map is (picked its_own all)) (no_times met h e q items chain)

  -- the three slices lent have room
  lent_there : long_enough lent ≡ true
  unfolding meets_needs
  lent_there = passes (long_enough lent) (and_yes (leb plan_need (length s)) (long_enough lent) (subst T (sym met) tt)).1

  -- what is found of the arrays to which they were written
  module _ (n own m : ℕ) (qn : n ≡ event_count h.plan) (qo : own ≡ its_own) (qm : m ≡ length all) (ends₀ ranges₀ ends ranges : List ℕ)
      (qe : ends ≡ sets ends₀ 0 (flat_map bound_ends all)) (qr : ranges ≡ sets ranges₀ 0 (flat_map bound_range all)) where
    -- is found of these bounds, unless there is no room
    of_bounds : (a : Option Solved) (lent' : Lent) → Solving its_own (length all) (event_count h.plan) ends ranges lent a lent' → Worked (length ends₀) (length ranges₀) s lent (told a) lent'
    of_bounds a lent' (unfit q) = no_room (by (below_or_not (length ends₀) 24_576) (below_or_not (length ranges₀) 24_576))
      where
        by : (length ends₀ < 24_576) ⊎ (24_576 ≤ length ends₀) → (length ranges₀ < 24_576) ⊎ (24_576 ≤ length ranges₀) → (length ends₀ < 24_576) ⊎ (length ranges₀ < 24_576)
        by (inl x) y = inl x
        by (inr x) (inl y) = inr y
        by (inr x) (inr y) =
            let fits : (network_fits (length all) (event_count h.plan) ends ranges && long_enough lent) ≡ true =
            ap (λ (x : Bool). x && long_enough lent) (network_there h.plan h.book logged ends₀ ranges₀ ends ranges qe qr x y) ∙ lent_there in
            absurd (true≢false (sym fits ∙ q))
    of_bounds a lent' (solved q x y w) =
        let (he, hr) = fits_says (length all) (event_count h.plan) ends ranges (long_enough lent) q in
        let room : 2 * length all ≤ length ends₀ = omega (arith, he, ends_long h.plan h.book logged ends₀ ranges₀ ends ranges qe qr) in
        let rooms : 2 * length all ≤ length ranges₀ = omega (arith, hr, ranges_long h.plan h.book logged ends₀ ranges₀ ends ranges qe qr) in
        done (told (Some x)) y (by_bounds x y (
        subst (λ (cs : List Bound). Solves its_own (event_count h.plan) cs lent x y) (bounds_there h.plan h.book logged ends₀ ranges₀ ends ranges qe qr room rooms) w))

    -- whatever their numbers are called
    pub solving_is : (a : Option Solved) (lent' : Lent) → Solving own m n ends ranges lent a lent' → Worked (length ends₀) (length ranges₀) s lent (told a) lent'
    solving_is a lent' w =
        of_bounds a lent'
        (subst (λ (k : ℕ). Solving its_own (length all) k ends ranges lent a lent') qn
        (subst (λ (k : ℕ). Solving its_own k n ends ranges lent a lent') qm (subst (λ (k : ℕ). Solving k m n ends ranges lent a lent') qo w)))
