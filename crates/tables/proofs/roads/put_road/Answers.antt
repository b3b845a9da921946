-- `tables::roads::put_road` meets its contract. Assumes nothing.
use Prim.Native.Nat.{ℕ, suc, ◌+◌, ◌*◌}
use native.Mathlib.Omega.{arith}
use mathlib.Core.Path.{◌≡◌, sym, ◌∙◌}
use mathlib.Core.List.{List, [], ◌∷◌}
use lib.ListN.{set, length-set, get_or}
use lib.Seq.{sets}
use Rattle.tables.specs.Arrays.{road_numbers}
use Rattle.tables.proofs.Indexes.{four_stored, stored_indexed, stored_bucket, one_indexed}
use Rattle.tables.proofs.roads.put_road.Goals as goal

-- four stores in a row
four_stores : (s : List ℕ) (i a b l m : ℕ) → set (set (set (set s i a) (i + 1) b) (i + 2) l) (i + 3) m ≡ sets s i (a ∷ b ∷ l ∷ m ∷ [])
four_stores s i a b l m =
    let one : i + 1 ≡ suc i = omega arith in
    let two : i + 2 ≡ suc (suc i) = omega arith in
    let three : i + 3 ≡ suc (suc (suc i)) = omega arith in
    rw (one, two, three)

pub returns : goal.returns
unfolding road_numbers
returns c =
    let a = c.args in
    let e = c.bucket_of-b.ensures in
    let k = c.requires.linked in
    let s : List ℕ = four_stored a.n a.roads.now a.road.from a.road.to a.road.length a.road.margin in
    let here = e.0 ∙ sym (stored_bucket a.n a.roads.now a.road.from a.road.to a.road.length a.road.margin (omega arith)) in record {
      left = four_stores a.roads.now (4 * a.n) a.road.from a.road.to a.road.length a.road.margin;
      index = record {
        heads_long = length-set a.index.now.heads.now c.bucket_of-b.result (a.n + 1) ∙ k.heads_long;
        nexts_long = length-set a.index.now.nexts.now a.n (get_or a.index.now.heads.now c.bucket_of-b.result 0) ∙ k.nexts_long;
        indexed = one_indexed s a.index.now.heads.now a.index.now.nexts.now a.n
            (stored_indexed a.n a.roads.now a.road.from a.road.to a.road.length a.road.margin a.index.now.heads.now a.index.now.nexts.now k.indexed) c.bucket_of-b.result here e.1
            (omega (arith, e.1, k.heads_long)) (omega (arith, c.requires.n_bound.0, k.nexts_long));
      };
    }
