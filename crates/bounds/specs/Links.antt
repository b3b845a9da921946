-- Roads linked by remainders, for the code that looks for the road of a move.
-- Assumes nothing.
use Rattle.std.specs.Prelude.{ℕ, ◌≡◌, List, length}
use Rattle.tables.specs.Index.{Indexed}

-- where as many heads are lent as there are remainders, n roads in an array are linked as the reader of their table leaves them: each remainder's last road,
-- and to each road the last of its remainder before it. With any other number nothing is asked, and the roads are gone through one after the other.
abbrev pub RoadsLinked : ℕ → List ℕ → List ℕ → List ℕ → Type 0
RoadsLinked n edges heads nexts = length heads ≡ 1024 → (length nexts ≡ 1024) × Indexed n edges heads nexts
