-- The parts of a plan slice as the code looks at them: each is a text, bytes other than zero, and zeros after it.
-- Assumes nothing.
use Rattle.std.specs.Prelude.{ℕ, ◌*◌, Bool, ◌&&◌, cond, List, length, take, drop, Option, None, Some}
use Rattle.floor.specs.Tables.{Tables}
use Rattle.slice.specs.declared.Layout.{Layout}
use Rattle.slice.specs.PlanSlice.{until_zero}
use Rattle.slice.specs.Holding.{only_zeros}

-- nothing but zeros follows the text of a part
unfoldable pub zeros_follow : List ℕ → Bool
zeros_follow part = only_zeros (drop (length (until_zero part)) part)

-- the length of a text, where zeros follow it
unfoldable pub text_laid : List ℕ → Option ℕ
text_laid part = cond (zeros_follow part) (Some (length (until_zero part))) None

-- the lengths of four texts, the last of which has a time for each byte, where zeros follow each and the times
unfoldable pub texts_laid : List ℕ → List ℕ → List ℕ → List ℕ → List ℕ → Option Layout
texts_laid roads carts paths log times =
    let l : Layout =
    record { roads = length (until_zero roads); carts = length (until_zero carts); paths = length (until_zero paths); reports = length (until_zero log) } in
    cond
    (zeros_follow roads && (zeros_follow carts && (zeros_follow paths && (zeros_follow log && only_zeros (drop (8 * length (until_zero log)) times)))))
    (Some l)
    None

-- the texts of the tables in a slice that is laid out so
unfoldable pub texts_in : Layout → List ℕ → Tables
texts_in l s = record { roads = take l.roads s; carts = take l.carts (drop 65_536 s); paths = take l.paths (drop 131_072 s) }

-- Names every definition of this module, for a proof that computes with them all.
unfoldable pub open_texts : Unit {0}
unfolding zeros_follow text_laid texts_laid texts_in
open_texts = tt
