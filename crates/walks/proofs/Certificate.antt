-- Values that the certificate's checks pass are the greatest sums of the weights: 8,192 times the greatest sum over walks, less the least number of arcs
-- of a walk that has it; and the number of passes is the greatest of those numbers. Assumes nothing.
use Rattle.std.specs.Prelude.{Option, None, Some}
use Prim.Native.Nat.{ℕ, zero, suc, ◌+◌, ◌-◌, ◌≤◌, ◌<◌}
use native.Mathlib.Decide.{ℕ_discrete, dec_lt}
use native.Mathlib.Omega.{arith}
use mathlib.Core.Path.{◌≡◌, refl, ap, sym, ◌∙◌, subst}
use mathlib.Core.Logic.{◌≢◌, by_cases}
use mathlib.Core.List.Memᴰ
use mathlib.Core.List.{List, map, Memᴰ}
use lib.ListN.{get_or}
use lib.IntN.{ℤ, pos, ◌+ℤ◌, ◌-ℤ◌, ◌*ℤ◌}
use lib.Signed.{◌≤ℤ◌}
use Rattle.walks.specs.Walks.{Arc, Walk, stay, go, WalkWithin}
use Rattle.walks.specs.Passes.{Sums, sums, Settled, settled}
use Rattle.walks.specs.Parents.{repeated}
use Rattle.walks.specs.Solutions.{Solves, Between}
use Rattle.walks.specs.Certificate.{scale, weighted, Tight, Certificate}
use Rattle.walks.proofs.Search.{FirstBelow, found, nowhere, first, Twice, pigeon}
use Rattle.walks.proofs.Orbit.{repeated_add, repeated_below}
use Rattle.walks.proofs.Greatest.{AtLeast, none_greater}
use Rattle.walks.proofs.PassNumber.{same_everywhere}
use Rattle.walks.proofs.Settling.{ends_below, changed_before, settled_after, settled_walk}
use Rattle.walks.proofs.Least.{along_walk, walk_below, below_solutions}
use Rattle.walks.proofs.Unsettled.{solution_settles}
use Rattle.laws.proofs.Signed.{signed, sum, difference, product}

-- ---- walks of weights: the weight of a walk of j arcs with the sum w is 8,192 times w, less j

-- with one arc more
weigh_more : (j : ℕ) (w x y : ℤ) (a : Arc) → (x +ℤ pos j) ≡ (pos scale *ℤ w) → y ≡ (x +ℤ (weighted a).adds)
    → (y +ℤ pos (suc j)) ≡ (pos scale *ℤ (w +ℤ a.adds))
unfolding weighted
weigh_more j w x y a e f =
    let c : ℤ = a.adds in
    let d : ℤ = (pos scale *ℤ c) -ℤ pos 1 in
    omega (
      signed,
      sum x (pos j),
      sum x d,
      sum y (pos (suc j)),
      sum w c,
      difference (pos scale *ℤ c) (pos 1),
      product scale c,
      product scale w,
      product scale (w +ℤ c),
    )

-- an arc whose weight the values allow allows the times that they hold
allows : (x y t u : ℤ) (i j : ℕ) (a : Arc) → (x +ℤ pos i) ≡ (pos scale *ℤ t) → (y +ℤ pos j) ≡ (pos scale *ℤ u) → suc i < scale
    → (x +ℤ (weighted a).adds) ≤ℤ y
    → (t +ℤ a.adds) ≤ℤ u
unfolding weighted
allows x y t u i j a e f l h =
    let c : ℤ = a.adds in
    let d : ℤ = (pos scale *ℤ c) -ℤ pos 1 in
    omega (
      signed,
      sum x (pos i),
      sum y (pos j),
      sum x d,
      sum t c,
      difference (pos scale *ℤ c) (pos 1),
      product scale c,
      product scale t,
      product scale u,
    )

module _ (arcs : List Arc) where
  -- a walk of the arcs is one of the weighted arcs
  weighted_walk : (j v : ℕ) (w : ℤ) → Walk arcs j v w → (x : ℤ) × Walk (map weighted arcs) j v x × ((x +ℤ pos j) ≡ (pos scale *ℤ w))
  unfolding weighted
  weighted_walk j v w stay = (pos 0, stay, refl)
  weighted_walk j v w (go {k = k} {w = u} a m walk) =
      let (x, on, e) = weighted_walk k a.from u walk in
      (x +ℤ (weighted a).adds, go (weighted a) (Memᴰ.map weighted m) on, weigh_more k u x (x +ℤ (weighted a).adds) a e refl)

  module _ (n : ℕ) (p : 0 < n) (between : Between arcs n) (few : n < scale) (val : ℕ → ℤ) (c : Certificate arcs n val) where
    -- ---- above: no walk of weights has a greater sum

    -- the sum along any walk is allowed by every arc
    pub certified_above : (j v : ℕ) (x : ℤ) → Walk (map weighted arcs) j v x → x ≤ℤ val v
    unfolding weighted
    certified_above j v x walk =
        let h : (b : Arc) → Memᴰ b (map weighted arcs) → (val b.from +ℤ b.adds) ≤ℤ val b.to = λ b m.
        let (a, q, e) = Memᴰ.of_map weighted arcs m in
        subst (λ (z : Arc). (val z.from +ℤ z.adds) ≤ℤ val z.to) e (c.all a q)
        in
        let z : val 0 ≡ pos 0 = c.zeroed in
        let l : (val 0 +ℤ x) ≤ℤ val v = along_walk (map weighted arcs) val h j v x walk in
        omega (signed, sum (val 0) x)

    -- so 8,192 times the sum of a walk, less the number of its arcs, is at most the value
    above : (j v : ℕ) (w : ℤ) → Walk arcs j v w → (pos scale *ℤ w) ≤ℤ (val v +ℤ pos j)
    above j v w walk =
        let (x, on, e) = weighted_walk j v w walk in
        let l : x ≤ℤ val v = certified_above j v x on in
        omega (signed, sum x (pos j), sum (val v) (pos j))

    -- ---- attained: back along arcs that are exact, to the start

    -- where the exact arc of an event begins; the start and what is past the events stay
    begins : (u : ℕ) → Dec (suc u < n) → ℕ
    begins u (yes l) = (c.tight (suc u) (omega arith) l).arc.from
    begins u (no h) = suc u

    -- one step back
    step : ℕ → ℕ
    step zero = zero
    step (suc u) = begins u (dec_lt (suc u) n)

    -- it goes along an exact arc
    step_is : (u : ℕ) → u ≢ 0 → u < n → (t : Tight arcs val u) × (step u ≡ t.arc.from)
    unfolding step begins
    step_is zero h l = absurd (h refl)
    step_is (suc u) h l = by (dec_lt (suc u) n)
      where
        by : (d : Dec (suc u < n)) → (t : Tight arcs val (suc u)) × (begins u d ≡ t.arc.from)
        by (yes l) = (c.tight (suc u) (omega arith) l, refl)
        by (no q) = absurd (q l)

    -- it stays below n
    step_below : (u : ℕ) → u < n → step u < n
    unfolding step
    step_below u l = by (ℕ_discrete u 0)
      where
        by : Dec (u ≡ 0) → step u < n
        by (yes e) = subst (λ (z : ℕ). step z < n) (sym e) p
        by (no h) = let (t, e) = step_is u h l in subst (λ (z : ℕ). z < n) (sym e) (between t.arc t.of_arcs).0

    -- j steps back that do not begin at the start: the values differ by 8,192 times the sum of their arcs, less j
    climb : (j u : ℕ) → u < n → ((i : ℕ) → i < j → repeated step i u ≢ 0) → (w : ℤ) × ((val u +ℤ pos j) ≡ (val (repeated step j u) +ℤ (pos scale *ℤ w)))
    unfolding repeated weighted
    climb zero u l h = (pos 0, refl)
    climb (suc j) u l h =
        let (t, e) = step_is u (h 0 (omega arith)) l in
        let (w, q) = climb j (step u) (step_below u l) (λ i b. h (suc i) (omega arith)) in
        let a : ℤ = t.arc.adds in
        let y : ℕ = repeated step j (step u) in
        let d : ℤ = (pos scale *ℤ a) -ℤ pos 1 in
        let f : val u ≡ val (step u) +ℤ d = t.exact ∙ ap (λ (z : ℕ). val z +ℤ d) (sym e) in (
          w +ℤ a,
          omega (
            signed,
            q,
            f,
            sum (val u) (pos (suc j)),
            sum (val (step u)) d,
            sum (val (step u)) (pos j),
            sum (val y) (pos scale *ℤ w),
            sum (val y) (pos scale *ℤ (w +ℤ a)),
            sum w a,
            difference (pos scale *ℤ a) (pos 1),
            product scale a,
            product scale w,
            product scale (w +ℤ a),
          ),
        )

    -- where they end at the start they are a walk
    reach : (j u : ℕ) → u < n → ((i : ℕ) → i < j → repeated step i u ≢ 0) → repeated step j u ≡ 0
        → (w : ℤ) × Walk arcs j u w × ((val u +ℤ pos j) ≡ (pos scale *ℤ w))
    unfolding repeated
    reach zero u l h z =
        let o : val u ≡ pos 0 = ap val z ∙ c.zeroed in
        (pos 0, subst (λ (y : ℕ). Walk arcs 0 y (pos 0)) (sym z) stay, ap (λ (y : ℤ). y +ℤ pos 0) o)
    reach (suc j) u l h z =
        let (t, e) = step_is u (h 0 (omega arith)) l in
        let (w, walk, q) = reach j (step u) (step_below u l) (λ i b. h (suc i) (omega arith)) z in
        let a : Arc = t.arc in
        let f : val u ≡ val (step u) +ℤ (weighted a).adds = t.exact ∙ ap (λ (y : ℕ). val y +ℤ (weighted a).adds) (sym e) in (
          w +ℤ a.adds,
          subst (λ (y : ℕ). Walk arcs (suc j) y (w +ℤ a.adds)) t.ends (go a t.of_arcs (subst (λ (y : ℕ). Walk arcs j y w) e walk)),
          weigh_more j w (val (step u)) (val u) a q f,
        )

    -- they cannot come back to an event: 8,192 times a sum is not a number of arcs from 1 to n
    no_return : (v : ℕ) → v < n → ((i : ℕ) → i < n → repeated step i v ≢ 0) → Twice (λ j. repeated step j v) n → ⊥
    no_return v l h t =
        let u : ℕ = repeated step t.low v in
        let d : ℕ = t.high - t.low in
        let a : t.low + d ≡ t.high = omega (arith, t.below) in
        let round : repeated step d u ≡ u = sym (repeated_add step t.low d v) ∙ ap (λ (j : ℕ). repeated step j v) a ∙ sym t.equal in
        let (w, q) = climb d u (repeated_below step n step_below t.low v l)
        (λ i b. subst (λ (y : ℕ). y ≢ 0) (repeated_add step t.low i v) (h (t.low + i) (omega (arith, t.below, t.within))))
        in
        let r : (val u +ℤ pos d) ≡ (val u +ℤ (pos scale *ℤ w)) = q ∙ ap (λ (y : ℕ). val y +ℤ (pos scale *ℤ w)) round in
        omega (signed, r, sum (val u) (pos d), sum (val u) (pos scale *ℤ w), product scale w, t.below, t.within)

    -- so every event has a walk of fewer than n arcs whose weight is its value
    attained : (v : ℕ) → v < n → (j : ℕ) × (j < n) × (w : ℤ) × Walk arcs j v w × ((val v +ℤ pos j) ≡ (pos scale *ℤ w))
    attained v l = by (first (λ j. repeated step j v ≡ 0) (λ j. ℕ_discrete (repeated step j v) 0) n)
      where
        by : FirstBelow (λ j. repeated step j v ≡ 0) n → (j : ℕ) × (j < n) × (w : ℤ) × Walk arcs j v w × ((val v +ℤ pos j) ≡ (pos scale *ℤ w))
        by (found j b e h) = let (w, walk, q) = reach j v l h e in (j, b, w, walk, q)
        by (nowhere h) = absurd (no_return v l h (pigeon n (λ j. repeated step j v) (λ j b. repeated_below step n step_below j v l)))

    -- the value of an event is the greatest sum over walks of the weighted arcs, of any number of arcs, and one of fewer than n arcs has it
    pub certified : (v : ℕ) → v < n
        → ((j : ℕ) × (j < n) × Walk (map weighted arcs) j v (val v)) × ((j : ℕ) (x : ℤ) → Walk (map weighted arcs) j v x → x ≤ℤ val v)
    certified v l =
        let (j, b, w, walk, e) = attained v l in
        let (x, on, f) = weighted_walk j v w walk in
        let q : x ≡ val v = omega (signed, e, f, sum (val v) (pos j), sum x (pos j)) in
        ((j, b, subst (λ (y : ℤ). Walk (map weighted arcs) j v y) q on), λ i y. certified_above i v y)

    -- ---- the times and the numbers of arcs that the values hold

    module _ (t : ℕ → ℤ) (h : ℕ → ℕ) (holds : (v : ℕ) → v < n → (val v +ℤ pos (h v)) ≡ (pos scale *ℤ t v)) (rest : (v : ℕ) → v < n → h v < scale) where
      -- a value holds one time and one number of arcs below 8,192: those of the walk that has it
      met : (v : ℕ) → v < n → Walk arcs (h v) v (t v) × (h v < n)
      met v l =
          let (j, b, w, walk, e) = attained v l in
          let f : (val v +ℤ pos (h v)) ≡ (pos scale *ℤ t v) = holds v l in
          let same : w ≡ t v =
          omega (signed, e, f, rest v l, sum (val v) (pos j), sum (val v) (pos (h v)), product scale w, product scale (t v))
          in
          let count : j ≡ h v =
          omega (signed, same, e, f, sum (val v) (pos j), sum (val v) (pos (h v)), product scale w, product scale (t v))
          in
          (subst (λ (z : ℤ). Walk arcs (h v) v z) same (subst (λ (z : ℕ). Walk arcs z v w) count walk), subst (λ (z : ℕ). z < n) count b)

      -- every arc allows the times
      pub certified_solves : Solves arcs t
      certified_solves = record { zeroed = start; all = allowed }
        where
          start : t 0 ≡ pos 0
          start =
              let z : val 0 ≡ pos 0 = c.zeroed in
              omega (signed, z, holds 0 p, rest 0 p, sum (val 0) (pos (h 0)), product scale (t 0))

          allowed : (a : Arc) → Memᴰ a arcs → (t a.from +ℤ a.adds) ≤ℤ t a.to
          allowed a m =
              let (f, l) = between a m in
              let (walk, b) = met a.from f in
              allows (val a.from) (val a.to) (t a.from) (t a.to) (h a.from) (h a.to) a (holds a.from f) (holds a.to l)
              (omega (arith, b)) (c.all a m)

      -- the time is the greatest sum over walks of any number of arcs; the number is the least number of arcs of a walk that has it, and is below n
      pub certified_times : (v : ℕ) → v < n
          → Walk arcs (h v) v (t v) × ((j : ℕ) (w : ℤ) → Walk arcs j v w → w ≤ℤ t v) × ((j : ℕ) → Walk arcs j v (t v) → h v ≤ j) × (h v < n)
      certified_times v l =
          let (walk, b) = met v l in
          (walk, λ j w on. walk_below arcs t certified_solves j v w on, λ j on. fewest j (above j v (t v) on), b)
        where
          fewest : (j : ℕ) → (pos scale *ℤ t v) ≤ℤ (val v +ℤ pos j) → h v ≤ j
          fewest j g = omega (signed, g, holds v l, sum (val v) (pos j), sum (val v) (pos (h v)))

      -- ---- the passes settle on the times, and their number is the greatest of the numbers of arcs

      -- after m passes an event has its time, if its number is at most m
      sum_after : (m v : ℕ) → v < n → h v ≤ m → get_or (sums arcs n m) v None ≡ Some (t v)
      sum_after m v l b =
          let a : AtLeast (get_or (sums arcs n m) v None) (t v) = none_greater arcs n m (h v) v (t v) p (ends_below arcs n between) (met v l).0 b in
          let e : a.value ≡ t v = omega (signed, a.least, below_solutions arcs n t certified_solves m v a.value a.there) in
          a.there ∙ ap Some e

      module _ (s : Settled) (e : settled arcs n ≡ Some s) where
        -- where they settle, every event has its time
        settled_time : (v : ℕ) → v < n → get_or s.sums v None ≡ Some (t v)
        settled_time v l =
            ap (λ (r : Sums). get_or r v None) (settled_after arcs n p between s e (s.passes + h v) (omega arith))
            ∙ sum_after (s.passes + h v) v l (omega arith)

        -- its number is at most the number of passes
        most : (v : ℕ) → v < n → h v ≤ s.passes
        most v l =
            let r : WalkWithin arcs s.passes v (t v) = settled_walk arcs n p between s e v (t v) (settled_time v l) in
            omega (arith, r.fits, (certified_times v l).2 r.count r.walk)

        -- as many passes as the greatest of the numbers are enough
        enough : (m : ℕ) → ((v : ℕ) → v < n → h v ≤ m) → s.passes ≤ m
        enough m b =
            by_cases (dec_lt m s.passes)
            (λ l. absurd (changed_before arcs n s e m l
            (same_everywhere arcs n m (λ v q. sum_after m v q (b v q) ∙ sym (sum_after (suc m) v q (omega (arith, b v q)))))))
            (λ f. omega arith)

        -- so an event has that number
        reached : (v : ℕ) × (v < n) × (h v ≡ s.passes)
        reached = by (first (λ v. h v ≡ s.passes) (λ v. ℕ_discrete (h v) s.passes) n)
          where
            by : FirstBelow (λ v. h v ≡ s.passes) n → (v : ℕ) × (v < n) × (h v ≡ s.passes)
            by (found v l q b) = (v, l, q)
            by (nowhere b) =
                let g : s.passes ≤ s.passes - 1 = enough (s.passes - 1) (λ v l. omega (arith, b v l, most v l)) in
                absurd (b 0 p (omega (arith, most 0 p)))

      -- so they settle, on the times, after as many passes as the greatest of the numbers
      pub certified_settled : (s : Settled) × (settled arcs n ≡ Some s) × ((v : ℕ) → v < n → get_or s.sums v None ≡ Some (t v))
          × ((v : ℕ) → v < n → h v ≤ s.passes) × ((v : ℕ) × (v < n) × (h v ≡ s.passes))
      certified_settled = by (settled arcs n) refl
        where
          by : (o : Option Settled) → settled arcs n ≡ o
              → (s : Settled) × (settled arcs n ≡ Some s) × ((v : ℕ) → v < n → get_or s.sums v None ≡ Some (t v))
              × ((v : ℕ) → v < n → h v ≤ s.passes) × ((v : ℕ) × (v < n) × (h v ≡ s.passes))
          by None e = absurd (solution_settles arcs n p between t certified_solves e)
          by (Some s) e = (s, e, settled_time s e, most s e, reached s e)
