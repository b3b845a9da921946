-- Roads linked by a remainder of their cells: the road between two cells is found among those of its remainder.
-- Assumes nothing.
use Rattle.std.specs.Prelude.{ℕ, zero, suc, ◌+◌, ◌*◌, ◌%◌, ◌≤◌, ◌<◌, ◌≡◌, Bool, true, false, ◌&&◌, cond, List, eqb, length, get_or, replicate}
use Rattle.tables.specs.declared.lent.RoadIndex.{RoadIndex}

-- the remainder of a road between two cells: the same both ways
unfoldable pub bucket : ℕ → ℕ → ℕ
bucket a b = (a + b) % 1024

-- of the road at place i of an array
unfoldable pub bucket_at : List ℕ → ℕ → ℕ
bucket_at s i = bucket (get_or s (4 * i) 0) (get_or s (4 * i + 1) 0)

-- of the first n roads, the last of remainder b: one more than its place, 0 where there is none
unfoldable pub last_in : List ℕ → ℕ → ℕ → ℕ
last_in s b zero = 0
last_in s b (suc i) = cond (eqb (bucket_at s i) b) (suc i) (last_in s b i)

-- the index of n roads: each remainder's last, to each road the last of its remainder before it, and zeros behind them
pub record Indexed (n : ℕ) (s heads nexts : List ℕ) : Type 0 where
  pub heads_are : (b : ℕ) → b < 1024 → get_or heads b 0 ≡ last_in s b n
  pub heads_end : (b : ℕ) → 1024 ≤ b → get_or heads b 0 ≡ 0
  pub nexts_are : (j : ℕ) → j < n → get_or nexts j 0 ≡ last_in s (bucket_at s j) j
  pub nexts_end : (j : ℕ) → n ≤ j → get_or nexts j 0 ≡ 0

-- an index has 1,024 places for remainders and as many for roads
unfoldable pub index_room : RoadIndex → Bool
index_room i = eqb (length i.heads.now) 1024 && eqb (length i.nexts.now) 1024

-- two arrays with that room are the index of n roads
pub record Linked (n : ℕ) (s : List ℕ) (i : RoadIndex) : Type 0 where
  pub heads_long : length i.heads.now ≡ 1024
  pub nexts_long : length i.nexts.now ≡ 1024
  pub indexed : Indexed n s i.heads.now i.nexts.now

-- they have that room, and are the index of no road
abbrev pub Unlinked : RoadIndex → Type 0
Unlinked i = (i.heads.now ≡ replicate 1024 0) × (i.nexts.now ≡ replicate 1024 0)

-- they are the same arrays, and as long, whatever is in them
pub record SameIndex (i j : RoadIndex) : Type 0 where
  pub heads : j.heads.ghost_name ≡ i.heads.ghost_name
  pub nexts : j.nexts.ghost_name ≡ i.nexts.ghost_name
  pub heads_long : length j.heads.now ≡ length i.heads.now
  pub nexts_long : length j.nexts.now ≡ length i.nexts.now

-- with zeros in each place
pub record IndexCleared (i j : RoadIndex) : Type 0 where
  pub same : SameIndex i j
  pub heads : j.heads.now ≡ replicate (length i.heads.now) 0
  pub nexts : j.nexts.now ≡ replicate (length i.nexts.now) 0

-- what is left of arrays lent for an index: that of n roads, or without room they stay as they came
pub record IndexLeft (n : ℕ) (s : List ℕ) (i j : RoadIndex) : Type 0 where
  pub same : SameIndex i j
  pub where_room : index_room i ≡ true → Indexed n s j.heads.now j.nexts.now
  pub else_same : index_room i ≡ false → (j.heads.now ≡ i.heads.now) × (j.nexts.now ≡ i.nexts.now)

-- Names every definition of this module, for a proof that computes with them all.
unfoldable pub open_index : Unit {0}
unfolding bucket bucket_at last_in index_room
open_index = tt
