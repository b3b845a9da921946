-- The bounds that a book adds, by the numbers that the code that writes them has: first events, and a log.
-- Assumes nothing.
use Rattle.std.specs.Prelude.{ℕ, zero, suc, ◌+◌, ◌-◌, ◌&&◌, cond, List, [], ◌∷◌, ◌++◌, eqb, ltb, length, get_or}
use Rattle.words.specs.Words.{word_at}
use Rattle.network.specs.Bounds.{Bound}
use Rattle.schedule.specs.Book.{Report}
use Rattle.schedule.specs.Added.{reported_bound, clock_bound}
use Rattle.book.specs.Replaying.{times_of}

-- the bounds of the n events from e on that were passed at these times, as far as these go
unfoldable pub reported_from : ℕ → ℕ → List ℕ → List Bound
reported_from e zero us = []
reported_from e (suc n) [] = []
reported_from e (suc n) (u ∷ us) = reported_bound (record { event = e; time = u }) ∷ reported_from (suc e) n us

-- of the i-th report of a log, if it is of cart c and its event e comes before `next`
unfoldable pub one_reported : List ℕ → List ℕ → ℕ → ℕ → ℕ → ℕ → List Bound
one_reported log times i c e next =
    cond (eqb (get_or log i 0) c && ltb e next) (reported_bound (record { event = e; time = word_at 8 times i }) ∷ []) []

-- those of the n events from e on, still to be passed
unfoldable pub waiting_from : ℕ → ℕ → ℕ → List Bound
waiting_from clock e zero = []
waiting_from clock e (suc n) = clock_bound clock e ∷ waiting_from clock (suc e) n

-- of cart c, whose points but the first are the n events from e on
unfoldable pub cart_added : ℕ → List Report → ℕ → ℕ → ℕ → List Bound
cart_added clock log c e n =
    let rs : List Bound = reported_from e n (times_of c log) in
    rs ++ waiting_from clock (e + length rs) (n - length rs)

-- of the carts from number c on, whose first events are f and those that follow; the last number is the finish's
unfoldable pub added_along : ℕ → List Report → ℕ → ℕ → List ℕ → List Bound
added_along clock log c f [] = []
added_along clock log c f (g ∷ gs) = cart_added clock log c (suc f) (g - suc f) ++ added_along clock log (suc c) g gs

-- Names every definition of this module, for a proof that computes with them all.
unfoldable pub open_writing : Unit {0}
unfolding reported_from one_reported waiting_from cart_added added_along
open_writing = tt
