-- The three tables read one after the other, as the code does: what each way out gives. Assumes nothing.
use Rattle.std.specs.Prelude.{Option, None, Some, Err, Ok, Result, is_ok}
use Prim.Native.Nat.{ℕ, ◌≤◌}
use native.Mathlib.Omega.{arith}
use mathlib.Core.Path.{◌≡◌, refl, ap, sym, ◌∙◌, subst}
use mathlib.Core.List.{List, [], ◌∷◌, flat_map}
use mathlib.Core.Bool.{Bool, true, false, true≢false, ◌&&◌}
use lib.Dec.{leb, eqb}
use lib.ListN.{length, replicate, length-append, length-replicate}
use borrow.Author.Tests.{le-leb, leb-true, eq-eqb, eqb-true}
use Rattle.laws.proofs.Options.{some-injective, some-ne-none, none-ne-some}
use Rattle.rfc4180.specs.Text.{bytes}
use Rattle.rfc4180.specs.Records.{records}
use Rattle.words.specs.Words.{padded}
use Rattle.floor.specs.declared.Reason.TheVariants.{OffRoad, SameCell, Exchange}
use Rattle.floor.specs.declared.Table.TheVariants.{Roads}
use Rattle.floor.specs.declared.Refusal.{Refusal}
use Rattle.floor.specs.Refusal.{Judged, ◌>>=◌, ◌>>◌, unless_found, within_bytes, after_first_line}
use Rattle.floor.specs.Plan.{Plan}
use Rattle.floor.specs.declared.Road.{Road}
use Rattle.floor.specs.declared.Cart.{Cart}
use Rattle.floor.specs.Roads.{road, read_roads}
use Rattle.floor.specs.Carts.{read_carts}
use Rattle.floor.specs.Paths.{read_paths, off_road, first_same_cell, first_exchange}
use Rattle.floor.specs.Tables.{Tables, read_tables}
use Rattle.tables.specs.Arrays.{road_numbers, cart_numbers, path_cells}
use Rattle.tables.specs.Index.{Indexed, Linked, SameIndex, IndexCleared, index_room, IndexLeft}
use Rattle.tables.specs.declared.lent.PlanArrays.{PlanArrays}
use Rattle.tables.specs.Lending.{SameArrays}
use Rattle.tables.specs.declared.lent.RoadIndex.{RoadIndex}
use Rattle.tables.specs.declared.Size.{Size}
use Rattle.tables.specs.declared.ReadError.{ReadError}
use Rattle.tables.specs.Reading.{size_of, size_read, apart, read_apart, Arrays, room, Outcome, read_answer, zeros, numbers_of, arrays_judged, reading, roads_read, Answer, AsLong}
use Rattle.floor.proofs.Judging.{refused_not_accepted, accepted_same, bind_accepted, none_found_accepted, goes_on, ends, kept_in_order}
use Rattle.tables.proofs.RoadRecords.{road_fits}
use Rattle.tables.proofs.Indexes.{none_indexed}

-- "1,024 roads": no more are taken
pub few_roads : (b : List ℕ) (ds : List Road) → read_roads b ≡ Ok ds → length ds ≤ 1024
unfolding read_roads
few_roads b ds e =
    let (_, _, e1) = bind_accepted (within_bytes Roads b) _ ds e in
    let (rs, _, e2) = bind_accepted (after_first_line (bytes "from,to,length,margin") Roads (records b)) _ ds e1 in
    kept_in_order road (λ (x : List Road). length x ≤ 1024)
    (λ before r d h one. let few = road_fits before r d one in omega (arith, few, length-append before (d ∷ []))) rs [] ds (omega arith) e2

-- of all tables
pub plan_roads : (ts : Tables) (p : Plan) → read_tables ts ≡ Ok p → length p.roads ≤ 1024
unfolding read_tables
plan_roads ts p e =
    let (rs, er, e1) = bind_accepted (read_roads ts.roads) _ p e in
    let (cs, ec, e2) = bind_accepted (read_carts ts.carts) _ p e1 in
    let (ps, ep, e3) = bind_accepted (read_paths (length cs) ts.paths) _ p e2 in
    let (_, e4) = none_found_accepted (off_road rs 1 ps) OffRoad _ p e3 in
    let (_, e5) = none_found_accepted (first_same_cell ps) SameCell _ p e4 in
    let (_, e6) = none_found_accepted (first_exchange ps) Exchange _ p e5 in
    subst (λ (x : Plan). length x.roads ≤ 1024) (accepted_same (record { roads = rs; carts = cs; paths = ps }) p e6) (few_roads ts.roads rs er)

-- the plan of what the three tables hold
abbrev pub plan_of : List Road → List Cart → List (List ℕ) → Plan
plan_of rs cs ps = record { roads = rs; carts = cs; paths = ps }

-- 7, 8 and 9, and then the plan
apart_then : (rs : List Road) (cs : List Cart) (ps : List (List ℕ)) →
    (unless_found (off_road rs 1 ps) OffRoad >> (unless_found (first_same_cell ps) SameCell >> (unless_found (first_exchange ps) Exchange >> Ok (plan_of rs cs ps))))
    ≡ (apart rs ps >>= λ qs. Ok (plan_of rs cs qs))
unfolding apart ◌>>=◌ unless_found
apart_then rs cs ps = by (off_road rs 1 ps) (first_same_cell ps) (first_exchange ps)
  where
    by : (a b c : Option ℕ) →
        (unless_found a OffRoad >> (unless_found b SameCell >> (unless_found c Exchange >> Ok (plan_of rs cs ps))))
        ≡ ((unless_found a OffRoad >> (unless_found b SameCell >> (unless_found c Exchange >> Ok ps))) >>= λ qs. Ok (plan_of rs cs qs))
    by (Some i) b c = refl
    by None (Some i) c = refl
    by None None (Some i) = refl
    by None None None = refl

module _ (ts : Tables) where
  -- the roads are refused
  pub roads_refused : (r : Refusal) → read_roads ts.roads ≡ Err r → read_tables ts ≡ Err r
  unfolding read_tables
  roads_refused r e = ends (read_roads ts.roads) _ r e

  module _ (rs : List Road) (er : read_roads ts.roads ≡ Ok rs) where
    -- the carts are refused
    pub carts_refused : (r : Refusal) → read_carts ts.carts ≡ Err r → read_tables ts ≡ Err r
    unfolding read_tables
    carts_refused r e = goes_on (read_roads ts.roads) _ rs er ∙ ends (read_carts ts.carts) _ r e

    module _ (cs : List Cart) (ec : read_carts ts.carts ≡ Ok cs) where
      -- the paths say the rest
      tables_are : read_tables ts ≡ (read_apart rs (length cs) ts.paths >>= λ qs. Ok (plan_of rs cs qs))
      unfolding read_tables read_apart ◌>>=◌
      tables_are =
          goes_on (read_roads ts.roads) _ rs er ∙ goes_on (read_carts ts.carts) _ cs ec ∙ by (read_paths (length cs) ts.paths)
        where
          by : (j : Judged (List (List ℕ))) →
              (j >>= λ ps. unless_found (off_road rs 1 ps) OffRoad >> (unless_found (first_same_cell ps) SameCell >> (unless_found (first_exchange ps) Exchange >> Ok (plan_of rs cs ps))))
              ≡ ((j >>= apart rs) >>= λ qs. Ok (plan_of rs cs qs))
          by (Err r) = refl
          by (Ok ps) = apart_then rs cs ps

      -- they are refused
      pub paths_are_refused : (r : Refusal) → read_apart rs (length cs) ts.paths ≡ Err r → read_tables ts ≡ Err r
      paths_are_refused r e = tables_are ∙ ends (read_apart rs (length cs) ts.paths) _ r e

      -- they are not
      pub all_read : (ps : List (List ℕ)) → read_apart rs (length cs) ts.paths ≡ Ok ps → read_tables ts ≡ Ok (plan_of rs cs ps)
      all_read ps e = tables_are ∙ goes_on (read_apart rs (length cs) ts.paths) _ ps e

-- the answer, and where there is a plan the arrays and the index
module _ (j : Judged Plan) (a b : Arrays) (i : RoadIndex) where
  abbrev pub EachEnd : Judged Size → Type 0
  EachEnd r = (r ≡ size_read j) × (((p : Plan) → j ≡ Ok p → b ≡ numbers_of a p) × ((p : Plan) → j ≡ Ok p → Linked (length p.roads) b.roads i))

  -- of a refusal
  pub each_refused : (r : Refusal) → j ≡ Err r → EachEnd (Err r)
  unfolding size_read
  each_refused r e =
      let no : (p : Plan) → j ≡ Ok p → ⊥ = λ p f. refused_not_accepted r p (sym e ∙ f) in
      (sym (ap size_read e), (λ p f. absurd (no p f), λ p f. absurd (no p f)))

  -- of a plan
  pub each_read : (p : Plan) → j ≡ Ok p → (r : Judged Size) → r ≡ size_read (Ok p) → b ≡ numbers_of a p → Linked (length p.roads) b.roads i → EachEnd r
  each_read p e r said x k = (
    said ∙ sym (ap size_read e),
    (
      λ q f. x ∙ ap (numbers_of a) (accepted_same p q (sym e ∙ f)),
      λ q f. subst (λ (v : Plan). Linked (length v.roads) b.roads i) (accepted_same p q (sym e ∙ f)) k,
    ),
  )

-- ---- the answers, read back

-- the plan, or the refusal, that an answer tells of
told : Answer → Result Size (Option Refusal)
told (Ok n) = Ok n
told (Err ReadError.TooShort) = Err None
told (Err (ReadError.Refused r)) = Err (Some r)

refusal_told : Result Size (Option Refusal) → Option Refusal
refusal_told (Ok n) = None
refusal_told (Err o) = o

size_told : Answer → Option Size
size_told (Ok n) = Some n
size_told (Err e) = None

pub answer_refused : (j : Judged Plan) (r : Refusal) → Err (ReadError.Refused r) ≡ read_answer j → j ≡ Err r
unfolding read_answer told refusal_told
answer_refused (Err q) r e = ap Err (some-injective _ _ (sym (ap (λ (x : Answer). refusal_told (told x)) e)))
answer_refused (Ok p) r e = absurd (some-ne-none _ (ap (λ (x : Answer). refusal_told (told x)) e))

pub answer_read : (j : Judged Plan) (n : Size) → Ok n ≡ read_answer j → (p : Plan) × (j ≡ Ok p) × (n ≡ size_of p)
unfolding read_answer size_told
answer_read (Err q) n e = absurd (some-ne-none _ (ap size_told e))
answer_read (Ok p) n e = (p, refl, some-injective _ _ (ap size_told e))

-- a judgement never says that an array is too short
pub answer_short : (j : Judged Plan) → Err ReadError.TooShort ≡ read_answer j → ⊥
unfolding read_answer told refusal_told size_told
answer_short (Err q) e = none-ne-some _ (ap (λ (x : Answer). refusal_told (told x)) e)
answer_short (Ok p) e = none-ne-some _ (ap size_told e)

-- only an answer that tells of a plan has an index to tell of
pub error_not_read : (e : ReadError) (n : Size) → ◌≡◌ {A = Answer} (Err e) (Ok n) → ⊥
unfolding size_told
error_not_read e n q = none-ne-some _ (ap size_told q)

-- it is that of as many roads as it tells of
pub index_read : (n : Size) (s : List ℕ) (i : RoadIndex) → Linked n.roads s i → (m : Size) → ◌≡◌ {A = Answer} (Ok n) (Ok m) → Linked m.roads s i
unfolding size_told
index_read n s i k m e = subst (λ (x : Size). Linked x.roads s i) (some-injective _ _ (ap size_told e)) k

-- the plan whose size is said, and what the reader answers then
size_said : Judged Size → Option Size
size_said (Ok n) = Some n
size_said (Err r) = None

refusal_said : Judged Size → Option Refusal
refusal_said (Ok n) = None
refusal_said (Err r) = Some r

pub size_there : (j : Judged Plan) (n : Size) → Ok n ≡ size_read j → (p : Plan) × (j ≡ Ok p) × (n ≡ size_of p)
unfolding size_read size_said
size_there (Err q) n e = absurd (some-ne-none _ (ap size_said e))
size_there (Ok p) n e = (p, refl, some-injective _ _ (ap size_said e))

pub size_refused : (j : Judged Plan) (r : Refusal) → Err r ≡ size_read j → j ≡ Err r
unfolding size_read refusal_said
size_refused (Err q) r e = ap Err (some-injective _ _ (sym (ap refusal_said e)))
size_refused (Ok p) r e = absurd (some-ne-none _ (ap refusal_said e))

-- ---- the arrays, all input

-- of arrays that are as long as others
module _ (a b : Arrays) (long : AsLong a b) where
  pub zeros_as : zeros b ≡ zeros a
  unfolding zeros
  zeros_as = rw (long.0, long.1, long.2)

  pub numbers_as : (p : Plan) → numbers_of b p ≡ numbers_of a p
  unfolding numbers_of
  numbers_as p = rw (long.0, long.1, long.2)

  pub room_as : room b ≡ room a
  unfolding room
  room_as = rw (long.0, long.1, long.2)

-- cleared arrays are
pub cleared_long : (a b : Arrays) → b ≡ zeros a → AsLong a b
unfolding zeros
cleared_long a b e = (
  ap (λ (x : Arrays). length x.roads) e ∙ length-replicate {A = ℕ} (length a.roads) 0,
  ap (λ (x : Arrays). length x.carts) e ∙ length-replicate {A = ℕ} (length a.carts) 0,
  ap (λ (x : Arrays). length x.cells) e ∙ length-replicate {A = ℕ} (length a.cells) 0,
)

-- arrays are the same as themselves, and as what is the same as they are
pub same_self : (a : PlanArrays) → SameArrays a a
same_self a = record { edges = refl; speeds = refl; cells = refl; as_long = (refl, refl, refl) }

pub same_on : (a b d : PlanArrays) → SameArrays a b → SameArrays b d → SameArrays a d
same_on a b d p q =
    record {
      edges = q.edges ∙ p.edges;
      speeds = q.speeds ∙ p.speeds;
      cells = q.cells ∙ p.cells;
      as_long = (q.as_long.0 ∙ p.as_long.0, q.as_long.1 ∙ p.as_long.1, q.as_long.2 ∙ p.as_long.2);
    }

-- arrays of zeros are zeros each
pub zeros_there : (a : Arrays) → a ≡ zeros a
    → (a.roads ≡ replicate (length a.roads) 0) × (a.carts ≡ replicate (length a.carts) 0) × (a.cells ≡ replicate (length a.cells) 0)
unfolding zeros
zeros_there a e = (ap (λ (x : Arrays). x.roads) e, ap (λ (x : Arrays). x.carts) e, ap (λ (x : Arrays). x.cells) e)

-- arrays that have each the numbers of a plan
pub numbers_there : (a b : Arrays) (p : Plan) → b.roads ≡ padded (length a.roads) (flat_map road_numbers p.roads)
    → b.carts ≡ padded (length a.carts) (flat_map cart_numbers p.carts) → b.cells ≡ padded (length a.cells) (path_cells p.paths) → b ≡ numbers_of a p
unfolding numbers_of
numbers_there a b p x y z =
    ap (λ (s : List ℕ). record { roads = s; carts = b.carts; cells = b.cells }) x
    ∙ ap (λ (s : List ℕ). record { roads = padded (length a.roads) (flat_map road_numbers p.roads); carts = s; cells = b.cells }) y
    ∙ ap (λ (s : List ℕ). record { roads = padded (length a.roads) (flat_map road_numbers p.roads); carts = padded (length a.carts) (flat_map cart_numbers p.carts); cells = s }) z

-- room, array by array
pub room_there : (a : Arrays) → room a ≡ true → (4096 ≤ length a.roads) × (128 ≤ length a.carts) × (8192 ≤ length a.cells)
unfolding room
room_there a e =
    let (x, y) = both_true (leb 4096 (length a.roads) && leb 128 (length a.carts)) (leb 8192 (length a.cells)) e in
    let (v, w) = both_true (leb 4096 (length a.roads)) (leb 128 (length a.carts)) x in
    (leb-true 4096 (length a.roads) v, leb-true 128 (length a.carts) w, leb-true 8192 (length a.cells) y)
  where
    both_true : (x y : Bool) → (x && y) ≡ true → (x ≡ true) × (y ≡ true)
    both_true true y e = (refl, e)
    both_true false y e = absurd (true≢false (sym e))

-- the answer and the arrays are those of `reading`
module _ (ts : Tables) (a : Arrays) where
  abbrev pub Into : Answer → Arrays → Type 0
  Into x b = (x ≡ (reading ts a).answer) × (b ≡ (reading ts a).arrays)

  -- an outcome, in two parts
  parts : (o : Outcome) → reading ts a ≡ o → Into o.answer o.arrays
  parts o q = (sym (ap (λ (x : Outcome). x.answer) q), sym (ap (λ (x : Outcome). x.arrays) q))

  -- no room
  pub into_short : room a ≡ false → Into (Err ReadError.TooShort) a
  unfolding reading
  into_short h =
      parts (record { answer = (Err ReadError.TooShort); arrays = a })
      (ap (λ (b : Bool). elim b as (λ _. Outcome) [ false ↦ record { answer = (Err ReadError.TooShort); arrays = a } | true ↦ record { answer = read_answer (read_tables ts); arrays = arrays_judged a (read_tables ts) } ]) h)

  module _ (has : room a ≡ true) where
    -- what a judgement says is answered, and left in the arrays
    pub into_judged : (j : Judged Plan) → read_tables ts ≡ j → reading ts a ≡ record { answer = read_answer j; arrays = arrays_judged a j }
    unfolding reading
    into_judged j q =
        ap (λ (b : Bool). elim b as (λ _. Outcome) [ false ↦ record { answer = (Err ReadError.TooShort); arrays = a } | true ↦ record { answer = read_answer (read_tables ts); arrays = arrays_judged a (read_tables ts) } ]) has
        ∙ ap (λ (x : Judged Plan). record { answer = read_answer x; arrays = arrays_judged a x }) q

    -- a refusal, and zeros
    pub into_refused : (why : Refusal) → read_tables ts ≡ Err why → (b : Arrays) → b ≡ zeros a → Into (Err (ReadError.Refused why)) b
    unfolding read_answer arrays_judged
    into_refused why q b x = let (p, l) = parts _ (into_judged (Err why) q) in (p, x ∙ l)

    -- a plan, and its numbers
    pub into_read : (plan : Plan) → read_tables ts ≡ Ok plan → (x : Answer) → x ≡ read_answer (Ok plan) → (b : Arrays) → b ≡ numbers_of a plan → Into x b
    unfolding arrays_judged
    into_read plan q x said b y = let (p, l) = parts _ (into_judged (Ok plan) q) in (said ∙ p, y ∙ l)

-- the room that is asked for
pub room_for : (e s k : List ℕ) → 4096 ≤ length e → 128 ≤ length s → 8192 ≤ length k → room (record { roads = e; carts = s; cells = k }) ≡ true
unfolding room
room_for e s k a b c = simp (le-leb 4096 (length e) a, le-leb 128 (length s) b, le-leb 8192 (length k) c)

-- ---- with an index

-- where no plan is read there is no road, and zeros are the index
pub roads_none : (x : Answer) → is_ok x ≡ false → (s : List ℕ) (i j : RoadIndex) → IndexCleared i j → Indexed (roads_read x) s j.heads.now j.nexts.now
unfolding roads_read
roads_none (Ok n) h s i j k = absurd (true≢false h)
roads_none (Err r) h s i j k = none_indexed (length i.heads.now) (length i.nexts.now) s j.heads.now j.nexts.now k.heads k.nexts

-- where one is, as many as it says
pub roads_told : (x : Answer) → is_ok x ≡ true → (s : List ℕ) (i : RoadIndex) → ((n : Size) → x ≡ Ok n → Linked n.roads s i) → Linked (roads_read x) s i
unfolding roads_read
roads_told (Ok n) h s i k = k n refl
roads_told (Err r) h s i k = absurd (true≢false (sym h))

-- an index has 1,024 places each
pub index_fits : (i : RoadIndex) → length i.heads.now ≡ 1024 → length i.nexts.now ≡ 1024 → index_room i ≡ true
unfolding index_room
index_fits i a b = simp (eq-eqb (length i.heads.now) 1024 a, eq-eqb (length i.nexts.now) 1024 b)

pub room_length : (i : RoadIndex) → index_room i ≡ true → (length i.heads.now ≡ 1024) × (length i.nexts.now ≡ 1024)
unfolding index_room
room_length i e = by (eqb (length i.heads.now) 1024) (eqb (length i.nexts.now) 1024) refl refl e
  where
    by : (x y : Bool) → eqb (length i.heads.now) 1024 ≡ x → eqb (length i.nexts.now) 1024 ≡ y → (x && y) ≡ true
        → (length i.heads.now ≡ 1024) × (length i.nexts.now ≡ 1024)
    by true true p q f = (eqb-true _ _ p, eqb-true _ _ q)
    by true false p q f = absurd (true≢false (sym f))
    by false y p q f = absurd (true≢false (sym f))

-- arrays are the same as themselves, and as what is the same as they are
pub index_self : (i : RoadIndex) → SameIndex i i
index_self i = record { heads = refl; nexts = refl; heads_long = refl; nexts_long = refl }

pub index_on : (i j k : RoadIndex) → SameIndex i j → SameIndex j k → SameIndex i k
index_on i j k a b = record { heads = b.heads ∙ a.heads; nexts = b.nexts ∙ a.nexts; heads_long = b.heads_long ∙ a.heads_long; nexts_long = b.nexts_long ∙ a.nexts_long }

-- what is left of the arrays lent for an index: where there is room, that of the roads
pub index_there : (n : ℕ) (s : List ℕ) (i j : RoadIndex) → SameIndex i j → index_room i ≡ true → Indexed n s j.heads.now j.nexts.now → IndexLeft n s i j
index_there n s i j same room there = record { same = same; where_room = λ e. there; else_same = λ e. absurd (true≢false (sym room ∙ e)) }

-- the same arrays have room alike
pub room_same : (i j : RoadIndex) → SameIndex i j → index_room j ≡ index_room i
unfolding index_room
room_same i j k = rw (k.heads_long, k.nexts_long)
