-- An accepted table has no zero byte and at most 65,536 bytes. Assumes nothing.
use Rattle.std.specs.Prelude.{Option, None, Some, Ok}
use Prim.Native.Nat.{ℕ, ◌≤◌}
use native.Mathlib.Omega.{arith}
use mathlib.Core.Path.{◌≡◌, refl, sym, subst}
use mathlib.Core.List.{List, [], ◌∷◌, ◌++◌}
use lib.Dec.{leb, leb→le, eqb, eqb→eq}
use lib.ListN.{length, get_or}
use Rattle.laws.proofs.Options.{none-ne-some}
use Rattle.rfc4180.specs.Text.{bytes, same}
use Rattle.rfc4180.specs.Records.{records, fields}
use Rattle.rfc4180.specs.Number.{number, numbers}
use Rattle.rfc4180.proofs.Text.{same_equal}
use Rattle.rfc4180.proofs.Bytes.{NoZero, NoZeros, no_zero_is, records_nonzero, fields_nonzero, number_nonzero, numbers_nonzero}
use Rattle.floor.specs.declared.Table.{Table}
use Rattle.floor.specs.Refusal.{Judged, within_bytes, after_first_line, records_in_order}
use Rattle.floor.specs.Plan.{Plan}
use Rattle.floor.specs.declared.Road.{Road}
use Rattle.floor.specs.declared.Cart.{Cart}
use Rattle.floor.specs.Roads.{road, read_roads}
use Rattle.floor.specs.Carts.{number_or_empty, cart, read_carts}
use Rattle.floor.specs.Paths.{path, read_paths}
use Rattle.floor.specs.Tables.{Tables, read_tables}
use Rattle.floor.proofs.Judging.{refused_not_accepted, accepted_same, bind_accepted, need_accepted, then_accepted, and_given_accepted}

-- ---- any table

-- no zero byte and at most 65,536 bytes
abbrev pub Fine : List ℕ → Type 0
Fine t = NoZero t × (length t ≤ 65_536)

-- a table taken is within its bytes
within : (t : Table) (b : List ℕ) (u : Unit {0}) → within_bytes t b ≡ Ok u → length b ≤ 65_536
unfolding within_bytes
within t b u e = leb→le (length b) 65_536 (need_accepted (leb (length b) 65_536) _ t 0 u e)

-- the first line is fixed, so a zero byte lies after it
first_line_nonzero : (line : List ℕ) (t : Table) (rs rest : List (List ℕ)) → after_first_line line t rs ≡ Ok rest → NoZero line → NoZeros rest → NoZeros rs
unfolding after_first_line
first_line_nonzero line t [] rest e n ns = absurd (refused_not_accepted _ rest e)
first_line_nonzero line t (r ∷ rs) rest e n ns =
    let (fixed, kept) = then_accepted (same line r) _ t 0 (Ok rs) rest e in
    (subst NoZero (same_equal line r fixed) n, subst NoZeros (sym (accepted_same rs rest kept)) ns)

-- a zero byte lies in no record that is taken
taken_nonzero : {A : Type 0} (judge : List A → List ℕ → Judged A) → ((before : List A) (r : List ℕ) (a : A) → judge before r ≡ Ok a → NoZero r)
    → (rs : List (List ℕ)) (before all : List A) → records_in_order judge before rs ≡ Ok all → NoZeros rs
unfolding records_in_order
taken_nonzero judge each [] before all e = tt
taken_nonzero {A} judge each (r ∷ rs) before all e =
    let (a, one, rest) = bind_accepted (judge before r) (λ (x : A). records_in_order judge (before ++ (x ∷ [])) rs) all e in
    (each before r a one, taken_nonzero judge each rs (before ++ (a ∷ [])) all rest)

-- ---- roads

-- an accepted record is all numbers
road_nonzero : (before : List Road) (r : List ℕ) (d : Road) → road before r ≡ Ok d → NoZero r
unfolding road
road_nonzero before r d e = let (ns, there, rest) = and_given_accepted (numbers (fields r)) _ _ _ _ d e in fields_nonzero r (numbers_nonzero (fields r) ns there)

-- the first line's letters and commas
roads_line : NoZero (bytes "from,to,length,margin")
unfolding bytes
roads_line = no_zero_is (bytes "from,to,length,margin") tt

-- an accepted table of roads
pub roads_fine : (b : List ℕ) (rs : List Road) → read_roads b ≡ Ok rs → Fine b
unfolding read_roads
roads_fine b ds e =
    let (u, short, judged) = bind_accepted (within_bytes _ b) _ ds e in
    let (rs, first, rest) = bind_accepted (after_first_line (bytes "from,to,length,margin") _ (records b)) _ ds judged in
    (records_nonzero b (first_line_nonzero _ _ (records b) rs first roads_line (taken_nonzero road road_nonzero rs [] ds rest)), within _ b u short)

-- ---- carts

-- a number or nothing
number_or_empty_nonzero : (f : List ℕ) (o : Option ℕ) → number_or_empty f ≡ Some o → NoZero f
unfolding number_or_empty
number_or_empty_nonzero [] o e = tt
number_or_empty_nonzero (b ∷ bs) o e = by (number (b ∷ bs)) refl e
  where
    by : (n : Option ℕ) → number (b ∷ bs) ≡ n → elim n [ None ↦ None | Some x ↦ Some (Some x) ] ≡ Some o → NoZero (b ∷ bs)
    by None q e = absurd (none-ne-some _ e)
    by (Some x) q e = number_nonzero (b ∷ bs) x q

-- two fields are the first and the second
two_fields : (fs : List (List ℕ)) → length fs ≡ 2 → NoZero (get_or fs 0 []) → NoZero (get_or fs 1 []) → NoZeros fs
two_fields [] e a b = tt
two_fields (f ∷ []) e a b = (a, tt)
two_fields (f ∷ g ∷ []) e a b = (a, (b, tt))
two_fields (f ∷ g ∷ h ∷ fs) e a b = absurd (omega (arith, e))

-- an accepted record is a number, and a number or nothing
cart_nonzero : (before : List Cart) (r : List ℕ) (c : Cart) → cart before r ≡ Ok c → NoZero r
unfolding cart
cart_nonzero before r c e =
    let fs : List (List ℕ) = fields r in
    let (two, judged) = then_accepted (eqb (length fs) 2) _ _ _ _ c e in
    let (f, fast, others) = and_given_accepted (number (get_or fs 0 [])) _ _ _ _ c judged in
    let (s, slow, rest) = and_given_accepted (number_or_empty (get_or fs 1 [])) _ _ _ _ c others in
    fields_nonzero r (two_fields fs (eqb→eq (length fs) 2 two) (number_nonzero (get_or fs 0 []) f fast) (number_or_empty_nonzero (get_or fs 1 []) s slow))

-- the first line's letters and comma
carts_line : NoZero (bytes "fastest,slowest")
unfolding bytes
carts_line = no_zero_is (bytes "fastest,slowest") tt

-- an accepted table of carts
pub carts_fine : (b : List ℕ) (cs : List Cart) → read_carts b ≡ Ok cs → Fine b
unfolding read_carts
carts_fine b cs e =
    let (u, short, judged) = bind_accepted (within_bytes _ b) _ cs e in
    let (rs, first, others) = bind_accepted (after_first_line (bytes "fastest,slowest") _ (records b)) _ cs judged in
    let (ds, each, rest) = bind_accepted (records_in_order cart [] rs) _ cs others in
    (records_nonzero b (first_line_nonzero _ _ (records b) rs first carts_line (taken_nonzero cart cart_nonzero rs [] ds each)), within _ b u short)

-- ---- paths

-- an accepted record is all numbers
path_nonzero : (before : List (List ℕ)) (r : List ℕ) (p : List ℕ) → path before r ≡ Ok p → NoZero r
unfolding path
path_nonzero before r p e = let (ns, there, rest) = and_given_accepted (numbers (fields r)) _ _ _ _ p e in fields_nonzero r (numbers_nonzero (fields r) ns there)

-- an accepted table of paths
pub paths_fine : (n : ℕ) (b : List ℕ) (ps : List (List ℕ)) → read_paths n b ≡ Ok ps → Fine b
unfolding read_paths
paths_fine n b ps e =
    let (u, short, judged) = bind_accepted (within_bytes _ b) _ ps e in
    let (qs, each, rest) = bind_accepted (records_in_order path [] (records b)) _ ps judged in
    (records_nonzero b (taken_nonzero path path_nonzero (records b) [] qs each), within _ b u short)

-- ---- the three tables

-- three accepted tables
pub accepted_bytes : (ts : Tables) (p : Plan) → read_tables ts ≡ Ok p → Fine ts.roads × Fine ts.carts × Fine ts.paths
unfolding read_tables
accepted_bytes ts p e =
    let (rs, roads, e1) = bind_accepted (read_roads ts.roads) _ p e in
    let (cs, carts, e2) = bind_accepted (read_carts ts.carts) _ p e1 in
    let (ps, paths, e3) = bind_accepted (read_paths (length cs) ts.paths) _ p e2 in
    (roads_fine ts.roads rs roads, carts_fine ts.carts cs carts, paths_fine (length cs) ts.paths ps paths)
