-- A record of the table of roads, case by case, as the code meets them. Assumes nothing.
use Rattle.std.specs.Prelude.{Option, None, Some, Err, Ok, Result, option_map}
use Prim.Native.Nat.{ℕ, zero, suc, ◌*◌, ◌-◌, ◌≤◌, ◌<◌}
use native.Mathlib.Omega.{arith}
use mathlib.Core.Path.{◌≡◌, refl, ap, sym, ◌∙◌, subst}
use mathlib.Core.Bool.{Bool, true, false, ◌&&◌, not, cond}
use mathlib.Core.List.{List, [], ◌∷◌, ◌++◌, map, flat_map, append-nil}
use mir.Facts.{and_yes}
use lib.Dec.{T, leb, eqb, leb→le, ltb→lt}
use lib.ListN.{length, take, drop, get_or, replicate, length-map, get_or-map, drop_of_length-le}
use lib.Seq.{take-length}
use borrow.Author.Tests.{lt-leb, le-leb, eq-eqb, ne_eqb, not-true, not-false}
use Rattle.laws.proofs.Options.{some-ne-none, none-ne-some, some-injective}
use Rattle.laws.proofs.Tests.{fails}
use Rattle.words.specs.Words.{padded, written}
use Rattle.rfc4180.specs.Records.{fields}
use Rattle.rfc4180.specs.Answers.{counted}
use Rattle.rfc4180.specs.Number.{numbers, leading, capped}
use Rattle.rfc4180.proofs.Reading.{leading_all, capped_small, answered_numbers}
use Rattle.floor.specs.declared.Reason.{Reason}
use Rattle.floor.specs.declared.Reason.TheVariants.{Layout, Range, RoadPair, Limit}
use Rattle.floor.specs.declared.Table.TheVariants.{Roads}
use Rattle.floor.specs.declared.Refusal.{Refusal}
use Rattle.floor.specs.Refusal.{Judged, ◌>>◌, need, next}
use Rattle.floor.specs.Plan.{joined}
use Rattle.floor.specs.declared.Road.{Road}
use Rattle.floor.specs.Roads.{cell_range, road_ranges, road}
use Rattle.tables.specs.Arrays.{road_numbers, roads_in}
use Rattle.tables.specs.Reading.{road_read, road_of}
use Rattle.floor.proofs.Judging.{pass, stop, got, lacks, then_accepted, and_given_accepted}
use Rattle.tables.proofs.Turns.{Says, says_need, says_given}

-- the tests after the ranges
abbrev pair_tests : List Road → Road → Judged Road
pair_tests before d = do
  need (not (eqb d.from d.to) && not (joined before d.from d.to)) RoadPair Roads (next before)
  need (leb (next before) 1024) Limit Roads (next before)
  Ok d

abbrev pub at_next : List Road → Reason → Refusal
at_next before why = record { reason = why; table = Roads; row = next before }

-- the road of four values
abbrev pub quad : ℕ → ℕ → ℕ → ℕ → Road
quad a b l m = record { from = a; to = b; length = l; margin = m }

-- ---- the numbers of a record

module _ (fs : List (List ℕ)) where
  -- a field that is no number
  pub read_malformed : numbers fs ≡ None → Err Layout ≡ road_read (numbers fs)
  unfolding road_read
  read_malformed e = rw e

  module _ (ns : List ℕ) (e : numbers fs ≡ Some ns) where
    -- not four numbers
    read_count : (length ns ≡ 4 → ⊥) → Err Layout ≡ road_read (numbers fs)
    unfolding road_read
    read_count h = rw (e, ne_eqb (length ns) 4 h)

    module _ (four : length ns ≡ 4) where
      -- out of their ranges
      read_range : road_ranges (road_of ns) ≡ false → Err Range ≡ road_read (numbers fs)
      unfolding road_read
      read_range h = rw (e, eq-eqb (length ns) 4 four, h)

      -- in their ranges
      read_four : road_ranges (road_of ns) ≡ true → Ok (road_of ns) ≡ road_read (numbers fs)
      unfolding road_read
      read_four h = rw (e, eq-eqb (length ns) 4 four, h)

-- ---- the record

-- what is said of a record's numbers
numbers_said : Result Road Reason → Option Road
numbers_said (Ok d) = Some d
numbers_said (Err why) = None

refusal_said : Reason → Result Road Reason → Reason
refusal_said other (Ok d) = other
refusal_said other (Err why) = why

module _ (before : List Road) (r : List ℕ) where
  -- a record without a road's numbers
  pub road_unread : (why : Reason) → Err why ≡ road_read (numbers (fields r)) → road before r ≡ Err (at_next before why)
  unfolding road road_read numbers_said refusal_said
  road_unread why e = by (numbers (fields r)) refl e
    where
      by : (o : Option (List ℕ)) → numbers (fields r) ≡ o → Err why ≡ road_read o → road before r ≡ Err (at_next before why)
      by None f q = lacks (numbers (fields r)) Layout Roads (next before) _ f ∙ ap (λ (x : Reason). Err (at_next before x)) (ap (refusal_said Layout) (sym q))
      by (Some ns) f q = cases (eqb (length ns) 4) (road_ranges (road_of ns)) refl refl q
        where
          cases : (t u : Bool) → eqb (length ns) 4 ≡ t → road_ranges (road_of ns) ≡ u
              → Err why ≡ cond t (cond u (Ok (road_of ns)) (Err Range)) (Err Layout)
              → road before r ≡ Err (at_next before why)
          cases true true a b q = absurd (none-ne-some _ (ap numbers_said q))
          cases true false a b q =
              got (numbers (fields r)) Layout Roads (next before) _ ns f ∙ pass (eqb (length ns) 4) Layout Roads (next before) _ a
              ∙ stop (road_ranges (road_of ns)) Range Roads (next before) _ b ∙ ap (λ (x : Reason). Err (at_next before x)) (ap (refusal_said Layout) (sym q))
          cases false u a b q =
              got (numbers (fields r)) Layout Roads (next before) _ ns f ∙ stop (eqb (length ns) 4) Layout Roads (next before) _ a
              ∙ ap (λ (x : Reason). Err (at_next before x)) (ap (refusal_said Layout) (sym q))

  module _ (a b l m : ℕ) (e : Ok (quad a b l m) ≡ road_read (numbers (fields r))) where
    -- a record with them
    road_given : road before r ≡ pair_tests before (quad a b l m)
    unfolding road road_read numbers_said
    road_given = by (numbers (fields r)) refl e
      where
        by : (o : Option (List ℕ)) → numbers (fields r) ≡ o → Ok (quad a b l m) ≡ road_read o → road before r ≡ pair_tests before (quad a b l m)
        by None f q = absurd (some-ne-none _ (ap numbers_said q))
        by (Some ns) f q = cases (eqb (length ns) 4) (road_ranges (road_of ns)) refl refl q
          where
            cases : (t u : Bool) → eqb (length ns) 4 ≡ t → road_ranges (road_of ns) ≡ u
                → Ok (quad a b l m) ≡ cond t (cond u (Ok (road_of ns)) (Err Range)) (Err Layout)
                → road before r ≡ pair_tests before (quad a b l m)
            cases true true g h q =
                got (numbers (fields r)) Layout Roads (next before) _ ns f ∙ pass (eqb (length ns) 4) Layout Roads (next before) _ g
                ∙ pass (road_ranges (road_of ns)) Range Roads (next before) _ h ∙ ap (pair_tests before) (sym (some-injective _ _ (ap numbers_said q)))
            cases true false g h q = absurd (some-ne-none _ (ap numbers_said q))
            cases false u g h q = absurd (some-ne-none _ (ap numbers_said q))

    -- "a road from a cell to itself"
    pub road_self : a ≡ b → road before r ≡ Err (at_next before RoadPair)
    road_self h = road_given ∙ stop _ RoadPair Roads (next before) _ (ap (λ (x : Bool). not x && not (joined before a b)) (eq-eqb a b h))

    module _ (other : a ≡ b → ⊥) {t : Bool} (j : t ≡ joined before a b) where
      pair : (not (eqb a b) && not (joined before a b)) ≡ not t
      pair = ap (λ (x : Bool). not x && not (joined before a b)) (ne_eqb a b other) ∙ ap not (sym j)

      -- "a second road for a pair"
      pub road_second : t ≡ true → road before r ≡ Err (at_next before RoadPair)
      road_second h = road_given ∙ stop _ RoadPair Roads (next before) _ (pair ∙ ap not h)

      module _ (first : t ≡ false) where
        -- one too many
        pub road_over : 1024 ≤ length before → road before r ≡ Err (at_next before Limit)
        unfolding next
        road_over h = road_given ∙ pass _ RoadPair Roads (next before) _ (pair ∙ ap not first) ∙ stop _ Limit Roads (next before) _ (lt-leb (suc (length before)) 1024 (omega arith))

        -- a road
        pub road_taken : length before < 1024 → road before r ≡ Ok (quad a b l m)
        unfolding next
        road_taken h = road_given ∙ pass _ RoadPair Roads (next before) _ (pair ∙ ap not first) ∙ pass _ Limit Roads (next before) _ (le-leb (suc (length before)) 1024 (omega arith))

-- a record that is taken is at most the 1,024th
pub road_fits : (before : List Road) (r : List ℕ) (d : Road) → road before r ≡ Ok d → suc (length before) ≤ 1024
unfolding road next
road_fits before r d e =
    let (ns, _, e1) = and_given_accepted (numbers (fields r)) Layout Roads _ _ d e in
    let (_, e2) = then_accepted (eqb (length ns) 4) Layout Roads _ _ d e1 in
    let (_, e3) = then_accepted (road_ranges (road_of ns)) Range Roads _ _ d e2 in
    let (_, e4) = then_accepted (not (eqb (get_or ns 0 0) (get_or ns 1 0)) && not (joined before (get_or ns 0 0) (get_or ns 1 0))) RoadPair Roads _ _ d e3 in
    let (l, _) = then_accepted (leb (suc (length before)) 1024) Limit Roads _ _ d e4 in
    leb→le (suc (length before)) 1024 l

-- a refusal names the roads and the next record
pub road_says : (before : List Road) (r : List ℕ) → Says Roads (next before) (road before r)
unfolding road
road_says before r =
    says_given Roads (next before) (numbers (fields r)) Layout _ λ ns.
    says_need Roads (next before) (eqb (length ns) 4) Layout _
    (says_need Roads (next before) (road_ranges (road_of ns)) Range _
    (says_need Roads (next before) _ RoadPair _ (says_need Roads (next before) (leb (next before) 1024) Limit _ tt)))

-- ---- numbers as places of four bytes hold them

-- a road in its ranges has no number over the greatest length
ranges_small : (d : Road) → T (road_ranges d) → (d.from ≤ 100_000_000) × (d.to ≤ 100_000_000) × (d.length ≤ 100_000_000) × (d.margin ≤ 100_000_000)
unfolding road_ranges cell_range
ranges_small d t =
    let (t4, below) = and_yes (cell_range d.from && cell_range d.to && leb 3 d.length && leb d.length 100_000_000 && leb 1 d.margin) _ t in
    let (t3, margin) = and_yes (cell_range d.from && cell_range d.to && leb 3 d.length && leb d.length 100_000_000) _ t4 in
    let (t2, most) = and_yes (cell_range d.from && cell_range d.to && leb 3 d.length) _ t3 in
    let (t1, least) = and_yes (cell_range d.from && cell_range d.to) _ t2 in
    let (from, to) = and_yes (cell_range d.from) _ t1 in
    let f : d.from ≤ 65534 = leb→le d.from 65534 from in
    let g : d.to ≤ 65534 = leb→le d.to 65534 to in
    let l : d.length ≤ 100_000_000 = leb→le d.length 100_000_000 most in
    let m : 2 * d.margin < d.length = ltb→lt (2 * d.margin) d.length below in
    (omega arith, omega arith, omega arith, omega arith)

-- a number that is capped below the greatest is itself
capped_is : (n : ℕ) → capped n ≤ 100_000_000 → capped n ≡ n
unfolding capped
capped_is n h = omega arith

-- the number at a place
capped_at : (ns : List ℕ) (i : ℕ) → get_or (map capped ns) i 0 ≡ capped (get_or ns i 0)
unfolding capped
capped_at ns i = get_or-map capped ns i 0

-- a road of capped numbers
abbrev capped_road : Road → Road
capped_road d = record { from = capped d.from; to = capped d.to; length = capped d.length; margin = capped d.margin }

road_capped : (ns : List ℕ) → road_of (map capped ns) ≡ capped_road (road_of ns)
road_capped ns = rw (capped_at, capped_at, capped_at, capped_at)

-- equal numbers, equal roads
same_road : (d e : Road) → d.from ≡ e.from → d.to ≡ e.to → d.length ≡ e.length → d.margin ≡ e.margin → d ≡ e
same_road d e a b l m =
    ap (λ (x : ℕ). record { from = x; to = d.to; length = d.length; margin = d.margin }) a
    ∙ ap (λ (x : ℕ). record { from = e.from; to = x; length = d.length; margin = d.margin }) b
    ∙ ap (λ (x : ℕ). record { from = e.from; to = e.to; length = x; margin = d.margin }) l
    ∙ ap (λ (x : ℕ). record { from = e.from; to = e.to; length = e.length; margin = x }) m

-- capped numbers in their ranges are the numbers
ranges_exact : (ns : List ℕ) → road_ranges (road_of (map capped ns)) ≡ true → road_of (map capped ns) ≡ road_of ns
ranges_exact ns h =
    let c : Road = capped_road (road_of ns) in
    let (f, g, l, m) = ranges_small c (subst T (sym (ap road_ranges (sym (road_capped ns)) ∙ h)) tt) in
    road_capped ns ∙ same_road c (road_of ns) (capped_is _ f) (capped_is _ g) (capped_is _ l) (capped_is _ m)

-- capped numbers out of their ranges were so before
ranges_broken : (ns : List ℕ) → road_ranges (road_of (map capped ns)) ≡ false → road_ranges (road_of ns) ≡ false
ranges_broken ns h = fails (road_ranges (road_of ns)) broken
  where
    broken : T (road_ranges (road_of ns)) → ⊥
    broken t =
        let d : Road = road_of ns in
        let (f, g, l, m) = ranges_small d t in
        let e : road_of (map capped ns) ≡ d = road_capped ns ∙ same_road (capped_road d) d (capped_small _ (omega arith)) (capped_small _ (omega arith)) (capped_small _ (omega arith)) (capped_small _ (omega arith)) in
        subst T (sym (ap road_ranges e) ∙ h) t

-- ---- the array

-- an array that takes all numbers of a record
read_whole : (fs : List (List ℕ)) (ns v : List ℕ) → numbers fs ≡ Some ns → length ns ≡ length v
    → written (take (length v) (map capped (leading fs))) v ≡ map capped ns
unfolding written
read_whole fs ns v e h =
    let m : List ℕ = map capped ns in
    let lm : length m ≡ length v = length-map ns capped ∙ h in
    let front : take (length v) (map capped (leading fs)) ≡ m =
    ap (λ (x : List ℕ). take (length v) (map capped x)) (leading_all fs ns e) ∙ ap (λ (k : ℕ). take k m) (sym lm) ∙ take-length m in
    ap (λ (x : List ℕ). x ++ drop (length x) v) front ∙ ap (λ (x : List ℕ). m ++ x) (drop_of_length-le v {i = length m} (omega arith)) ∙ append-nil m

-- a record of k numbers, four of them in an array
module _ (row v : List ℕ) (k most : ℕ) (e : Some (record { count = k; greatest = most }) ≡ option_map counted (numbers (fields row)))
    (held : v ≡ written (take 4 (map capped (leading (fields row)))) (0 ∷ 0 ∷ 0 ∷ 0 ∷ [])) where
  -- not four
  pub read_other : (k ≡ 4 → ⊥) → Err Layout ≡ road_read (numbers (fields row))
  read_other h = let (ns, f, n, _) = answered_numbers _ k most e in read_count (fields row) ns f (λ q. h (n ∙ q))

  module _ (four : k ≡ 4) {t : Bool} (tested : t ≡ road_ranges (road_of v)) where
    capped_there : (ns : List ℕ) → numbers (fields row) ≡ Some ns → length ns ≡ 4 → v ≡ map capped ns
    capped_there ns f l = held ∙ read_whole (fields row) ns (0 ∷ 0 ∷ 0 ∷ 0 ∷ []) f l

    -- out of their ranges
    pub read_out : not t ≡ true → Err Range ≡ road_read (numbers (fields row))
    read_out h =
        let (ns, f, n, _) = answered_numbers _ k most e in
        let l : length ns ≡ 4 = sym n ∙ four in
        let broken : road_ranges (road_of (map capped ns)) ≡ false = ap (λ (x : List ℕ). road_ranges (road_of x)) (sym (capped_there ns f l)) ∙ sym tested ∙ not-true t h in
        read_range (fields row) ns f l (ranges_broken ns broken)

    -- in their ranges
    pub read_in : not t ≡ false → Ok (road_of v) ≡ road_read (numbers (fields row))
    read_in h =
        let (ns, f, n, _) = answered_numbers _ k most e in
        let l : length ns ≡ 4 = sym n ∙ four in
        let there : v ≡ map capped ns = capped_there ns f l in
        let kept : road_ranges (road_of v) ≡ true = sym tested ∙ not-false t h in
        let same : road_of v ≡ road_of ns = ap road_of there ∙ ranges_exact ns (ap (λ (x : List ℕ). road_ranges (road_of x)) (sym there) ∙ kept) in
        ap Ok same ∙ read_four (fields row) ns f l (ap road_ranges (sym same) ∙ kept)

-- the roads whose numbers were stored are those that are there
by_road : (ds : List Road) (z : List ℕ) → roads_in (length ds) (flat_map road_numbers ds ++ z) ≡ ds
unfolding roads_in road_numbers flat_map
by_road [] z = refl
by_road (d ∷ ds) z = ap (λ (x : List Road). d ∷ x) (by_road ds z)

pub roads_held : (n : ℕ) (ds : List Road) → roads_in (length ds) (padded n (flat_map road_numbers ds)) ≡ ds
unfolding padded
roads_held n ds = by_road ds (replicate (n - length (flat_map road_numbers ds)) 0)

-- as many as were asked for
pub roads_in_length : (n : ℕ) (s : List ℕ) → length (roads_in n s) ≡ n
unfolding roads_in
roads_in_length zero s = refl
roads_in_length (suc n) s = ap suc (roads_in_length n (drop 4 s))

-- a road's numbers are four
pub road_four_numbers : (d : Road) → length (road_numbers d) ≡ 4
unfolding road_numbers
road_four_numbers d = refl
