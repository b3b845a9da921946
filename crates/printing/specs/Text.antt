-- What the program prints (document 01, "Plans with known times").
-- Assumes nothing.
use Rattle.std.specs.Prelude.{ℕ, zero, suc, ◌+◌, ◌/◌, ◌%◌, true, false, List, [], ◌∷◌, ◌++◌, ltb}
use Rattle.rfc4180.specs.Text.{bytes}
use Rattle.floor.specs.Plan.{Plan}
use Rattle.network.specs.Events.{Event, start, finish, passing, events}

-- the decimal digits of a number below 10^k: those of its tens, and the last
unfoldable pub digits : ℕ → ℕ → List ℕ
digits zero n = []
digits (suc k) n = elim (ltb n 10) [ true ↦ (48 + n) ∷ [] | false ↦ digits k (n / 10) ++ ((48 + n % 10) ∷ []) ]

-- a number as it is printed: one of 64 bits has at most 20 digits
unfoldable pub shown : ℕ → List ℕ
shown n = digits 20 n

-- "cart, 0 for start and finish"
unfoldable pub cart_shown : Event → List ℕ
cart_shown start = shown 0
cart_shown finish = shown 0
cart_shown (passing c x) = shown c

-- "cell, empty there, else the cell entered, left or approached"
unfoldable pub cell_shown : Event → List ℕ
cell_shown start = []
cell_shown finish = []
cell_shown (passing c x) = shown x.cell

-- "(event; cart …; cell …; time)"; "Lines end in CR LF."
unfoldable pub event_line : ℕ → Event → ℕ → List ℕ
event_line e x t = shown e ++ (44 ∷ (cart_shown x ++ (44 ∷ (cell_shown x ++ (44 ∷ (shown t ++ (13 ∷ 10 ∷ [])))))))

-- the lines of events numbered from e on, each with its time
unfoldable pub event_lines : (ℕ → ℕ) → ℕ → List Event → List ℕ
event_lines time e [] = []
event_lines time e (x ∷ xs) = event_line e x (time e) ++ event_lines time (suc e) xs

-- a plan's times, whole
unfoldable pub times_text : Plan → (ℕ → ℕ) → List ℕ
times_text p time = bytes "event,cart,cell,time\r\n" ++ event_lines time 0 (events p)

-- "the last two fields empty where the table is 0"
unfoldable pub place_shown : ℕ → ℕ → List ℕ
place_shown zero row = 44 ∷ []
place_shown (suc t) row = shown (suc t) ++ (44 ∷ shown row)

-- "A refusal prints `refusal,table,record` and one record"
unfoldable pub refusal_text : ℕ → ℕ → ℕ → List ℕ
refusal_text why table row = bytes "refusal,table,record\r\n" ++ (shown why ++ (44 ∷ (place_shown table row ++ (13 ∷ 10 ∷ []))))

-- Names every definition of this module, for a proof that computes with them all.
unfoldable pub open_text : Unit {0}
unfolding digits shown cart_shown cell_shown event_line event_lines times_text place_shown refusal_text
open_text = tt
