-- The numbers that a refusal comes to are small: its reason's, its table's, and its record's, since a limit stops each table. Assumes nothing.
use Rattle.std.specs.Prelude.{Option, None, Some, Err, Ok}
use Prim.Native.Nat.{ℕ, zero, suc, ◌+◌, ◌-◌, ◌≤◌}
use native.Mathlib.Omega.{arith}
use mathlib.Core.Path.{◌≡◌, refl, ap, sym, subst}
use mathlib.Core.Bool.{Bool, true, false, cond}
use mathlib.Core.List.{List, [], ◌∷◌, ◌++◌, map}
use lib.Dec.{leb, eqb}
use lib.ListN.{length, length-append, length-map}
use Rattle.rfc4180.specs.Text.{bytes, same}
use Rattle.rfc4180.specs.Records.{records}
use Rattle.floor.specs.declared.Reason.{Reason}
use Rattle.floor.specs.declared.Reason.TheVariants.{Layout, Range, RoadPair, Limit, NoCarts, PathCount, OffRoad, SameCell, Exchange}
use Rattle.floor.specs.declared.Table.{Table}
use Rattle.floor.specs.declared.Table.TheVariants.{Roads, Carts, Paths}
use Rattle.floor.specs.declared.Refusal.{Refusal}
use Rattle.floor.specs.Refusal.{reason_number, table_number, Judged, ◌>>=◌, need, unless_found, within_bytes, after_first_line, next, records_in_order}
use Rattle.floor.specs.declared.Road.{Road}
use Rattle.floor.specs.declared.Cart.{Cart}
use Rattle.floor.specs.Roads.{road, read_roads}
use Rattle.floor.specs.Carts.{cart, read_carts}
use Rattle.floor.specs.Paths.{path, read_paths, on_roads, off_road, collides, first_collision, earliest, at_step, same_cell, Move, exchanged, exchange, first_same_cell, first_exchange, steps}
use Rattle.floor.specs.Tables.{Tables, read_tables}
use Rattle.floor.proofs.Accepted.{Even, even_none, even_more, cart_sound, read_paths_sound}
use Rattle.tables.proofs.Turns.{Says}
use Rattle.tables.proofs.RoadRecords.{road_fits, road_says}
use Rattle.tables.proofs.CartRecords.{cart_says}
use Rattle.tables.proofs.PathRecords.{path_says}
use Rattle.tables.proofs.PathTurns.{even_few}

-- ---- the numbers of reasons and tables

pub reason_small : (why : Reason) → reason_number why ≤ 9
unfolding reason_number
reason_small Layout = omega arith
reason_small Range = omega arith
reason_small RoadPair = omega arith
reason_small Limit = omega arith
reason_small NoCarts = omega arith
reason_small PathCount = omega arith
reason_small OffRoad = omega arith
reason_small SameCell = omega arith
reason_small Exchange = omega arith

pub table_small : (t : Table) → table_number t ≤ 3
unfolding table_number
table_small Roads = omega arith
table_small Carts = omega arith
table_small Paths = omega arith

-- ---- the record, step by step

-- a refusal, if there is one, names a record up to this one
abbrev pub UpTo : {A : Type 0} → ℕ → Judged A → Type 0
UpTo k (Err r) = r.row ≤ k
UpTo k (Ok a) = Unit {0}

-- of a judgement that refuses
pub refused_up_to : {A : Type 0} (k : ℕ) (m : Judged A) (r : Refusal) → UpTo k m → m ≡ Err r → r.row ≤ k
refused_up_to k m r h e = subst (UpTo k) e h

-- one that names a record further back
says_up_to : {A : Type 0} (k : ℕ) (t : Table) (i : ℕ) (m : Judged A) → Says t i m → i ≤ k → UpTo k m
says_up_to k t i (Err r) h l = subst (λ (n : ℕ). n ≤ k) (sym (ap (λ (x : Refusal). x.row) h)) l
says_up_to k t i (Ok a) h l = tt

-- a step, and then the rest
pub bind_up_to : {A B : Type 0} (k : ℕ) (m : Judged A) (f : A → Judged B) → UpTo k m → ((a : A) → m ≡ Ok a → UpTo k (f a)) → UpTo k (m >>= f)
unfolding ◌>>=◌
bind_up_to k (Err r) f h rest = h
bind_up_to k (Ok a) f h rest = rest a refl

-- a test there, and then the rest
pub need_up_to : {B : Type 0} (k : ℕ) (b : Bool) (why : Reason) (t : Table) (i : ℕ) (m : Judged B) → i ≤ k → UpTo k m → UpTo k (need b why t i >>= λ _. m)
unfolding need ◌>>=◌
need_up_to k true why t i m l h = h
need_up_to k false why t i m l h = l

-- the first line is record 0
line_up_to : (k : ℕ) (line : List ℕ) (t : Table) (rs : List (List ℕ)) → UpTo k (after_first_line line t rs)
unfolding after_first_line
line_up_to k line t [] = omega arith
line_up_to k line t (r ∷ rs) = need_up_to k (same line r) Layout t 0 (Ok rs) (omega arith) tt

-- records in order, of which so many may be before one
in_order_up_to : {A : Type 0} (k : ℕ) (judge : List A → List ℕ → Judged A) (P : List A → Type 0)
    → ((before : List A) (r : List ℕ) → P before → UpTo k (judge before r))
    → ((before : List A) (r : List ℕ) (a : A) → P before → judge before r ≡ Ok a → P (before ++ (a ∷ [])))
    → (rs : List (List ℕ)) (before : List A) → P before → UpTo k (records_in_order judge before rs)
unfolding records_in_order
in_order_up_to k judge P one keep [] before h = tt
in_order_up_to {A} k judge P one keep (r ∷ rs) before h =
    bind_up_to k (judge before r) (λ (a : A). records_in_order judge (before ++ (a ∷ [])) rs) (one before r h)
    (λ a e. in_order_up_to k judge P one keep rs (before ++ (a ∷ [])) (keep before r a h e))

-- ---- the tables

roads_up_to : (b : List ℕ) → UpTo 8193 (read_roads b)
unfolding read_roads within_bytes next
roads_up_to b =
    need_up_to 8193 (leb (length b) 65536) Limit Roads 0 _ (omega arith)
    (bind_up_to 8193 (after_first_line (bytes "from,to,length,margin") Roads (records b)) _ (line_up_to 8193 (bytes "from,to,length,margin") Roads (records b)) λ rs _.
    in_order_up_to 8193 road (λ (x : List Road). length x ≤ 1024)
    (λ before r h. says_up_to 8193 Roads (suc (length before)) (road before r) (road_says before r) (omega arith))
    (λ before r d h one. let few = road_fits before r d one in omega (arith, few, length-append before (d ∷ []))) rs [] (omega arith))

carts_up_to : (b : List ℕ) → UpTo 8193 (read_carts b)
unfolding read_carts within_bytes next
carts_up_to b =
    need_up_to 8193 (leb (length b) 65536) Limit Carts 0 _ (omega arith)
    (bind_up_to 8193 (after_first_line (bytes "fastest,slowest") Carts (records b)) _ (line_up_to 8193 (bytes "fastest,slowest") Carts (records b)) λ rs _.
    bind_up_to 8193 (records_in_order cart [] rs) _
    (in_order_up_to 8193 cart (λ (x : List Cart). length x ≤ 64)
    (λ before r h. says_up_to 8193 Carts (suc (length before)) (cart before r) (cart_says before r) (omega arith))
    (λ before r c h one. let few = (cart_sound before r c one).1 in omega (arith, few, length-append before (c ∷ []))) rs [] (omega arith)) λ cs _.
    need_up_to 8193 (leb 1 (length cs)) NoCarts Carts 0 (Ok cs) (omega arith) tt)

paths_up_to : (carts : ℕ) (b : List ℕ) → UpTo 8193 (read_paths carts b)
unfolding read_paths within_bytes next
paths_up_to carts b =
    need_up_to 8193 (leb (length b) 65536) Limit Paths 0 _ (omega arith)
    (bind_up_to 8193 (records_in_order path [] (records b)) _
    (in_order_up_to 8193 path Even
    (λ before r h. let few = even_few before h in says_up_to 8193 Paths (suc (length before)) (path before r) (path_says before r) (omega (arith, few)))
    even_more (records b) [] even_none) λ ps _.
    need_up_to 8193 (eqb (length ps) carts) PathCount Paths 0 (Ok ps) (omega arith) tt)

-- ---- the searches

-- a record that is found is up to this one
abbrev FoundUpTo : ℕ → Option ℕ → Type 0
FoundUpTo k None = Unit {0}
FoundUpTo k (Some i) = i ≤ k

-- a search, and then the rest
unless_up_to : {B : Type 0} (k : ℕ) (o : Option ℕ) (why : Reason) (m : Judged B) → FoundUpTo k o → UpTo k m → UpTo k (unless_found o why >>= λ _. m)
unfolding unless_found ◌>>=◌
unless_up_to k None why m l h = h
unless_up_to k (Some i) why m l h = l

-- a path that leaves the roads is one of them
off_road_up_to : (k : ℕ) (rs : List Road) (i : ℕ) (ps : List (List ℕ)) → i + length ps ≤ suc k → FoundUpTo k (off_road rs i ps)
unfolding off_road
off_road_up_to k rs i [] l = tt
off_road_up_to k rs i (p ∷ ps) l = by (on_roads rs p) (off_road_up_to k rs (suc i) ps (omega arith))
  where
    by : (t : Bool) → FoundUpTo k (off_road rs (suc i) ps) → FoundUpTo k (cond t (off_road rs (suc i) ps) (Some i))
    by true more = more
    by false more = omega arith

-- a collision
collision_up_to : {A : Type 0} (k : ℕ) (f : A → A → Bool) (before xs : List A) → length before + length xs ≤ k → FoundUpTo k (first_collision f before xs)
unfolding first_collision next
collision_up_to k f before [] l = tt
collision_up_to k f before (x ∷ xs) l = by (collides f x before) (collision_up_to k f (before ++ (x ∷ [])) xs (omega (arith, length-append before (x ∷ []))))
  where
    by : (t : Bool) → FoundUpTo k (first_collision f (before ++ (x ∷ [])) xs) → FoundUpTo k (cond t (Some (next before)) (first_collision f (before ++ (x ∷ [])) xs))
    by true more = omega arith
    by false more = more

-- at the earliest step
earliest_up_to : (k : ℕ) (f : ℕ → Option ℕ) → ((s : ℕ) → FoundUpTo k (f s)) → (s n : ℕ) → FoundUpTo k (earliest f s n)
unfolding earliest
earliest_up_to k f h s zero = tt
earliest_up_to k f h s (suc n) = by (f s) (h s) (earliest_up_to k f h (suc s) n)
  where
    by : (o : Option ℕ) → FoundUpTo k o → FoundUpTo k (earliest f (suc s) n)
        → FoundUpTo k (elim o as (λ _. Option ℕ) [ None ↦ earliest f (suc s) n | Some i ↦ Some i ])
    by None one more = more
    by (Some i) one more = one

-- two carts in one cell
same_up_to : (k : ℕ) (ps : List (List ℕ)) → length ps ≤ k → FoundUpTo k (first_same_cell ps)
unfolding first_same_cell same_cell
same_up_to k ps l = earliest_up_to k (same_cell ps) (λ s. collision_up_to k eqb [] (map (at_step s) ps) (omega (arith, length-map ps (at_step s), l))) 0 (steps ps)

-- two that exchange cells
exchange_up_to : (k : ℕ) (ps : List (List ℕ)) → length ps ≤ k → FoundUpTo k (first_exchange ps)
unfolding first_exchange exchange
exchange_up_to k ps l =
    earliest_up_to k (exchange ps)
    (λ s.
    let move : List ℕ → Move = λ p. record { before = at_step s p; after = at_step (suc s) p } in
    collision_up_to k exchanged [] (map move ps) (omega (arith, length-map ps move, l)))
    0 (steps ps - 1)

-- ---- the whole

-- no refusal up to 9 names a record after the 8,193th
pub tables_up_to : (ts : Tables) → UpTo 8193 (read_tables ts)
unfolding read_tables
tables_up_to ts =
    bind_up_to 8193 (read_roads ts.roads) _ (roads_up_to ts.roads) λ rs _.
    bind_up_to 8193 (read_carts ts.carts) _ (carts_up_to ts.carts) λ cs _.
    bind_up_to 8193 (read_paths (length cs) ts.paths) _ (paths_up_to (length cs) ts.paths) λ ps e.
    let few : length ps ≤ 8192 = even_few ps (read_paths_sound (length cs) ts.paths ps e).0 in
    unless_up_to 8193 (off_road rs 1 ps) OffRoad _ (off_road_up_to 8193 rs 1 ps (omega arith))
    (unless_up_to 8193 (first_same_cell ps) SameCell _ (same_up_to 8193 ps (omega arith))
    (unless_up_to 8193 (first_exchange ps) Exchange _ (exchange_up_to 8193 ps (omega arith)) tt))
