-- The same text piece by piece, as the code puts it into a slice, from paths in an array; that it is the text of `specs.Text` is shown in `proofs.EventTexts`.
-- Assumes nothing.
use Rattle.std.specs.Prelude.{ℕ, ◌+◌, ◌≡◌, min, cond, List, [], ◌∷◌, ◌++◌, eqb, length}
use Rattle.std.proofs.lemmas.List.Edits.{sets}
use Rattle.words.specs.Words.{word_at}
use Rattle.rfc4180.specs.Text.{bytes}
use Rattle.network.specs.Events.{visits_of, points}
use Rattle.printing.specs.declared.lines.Out.{Out}
use Rattle.printing.specs.declared.events.Lines.{Lines}
use Rattle.printing.specs.Text.{shown}

-- some bytes are put into the slice s from place `at` on: t is the slice then, and k the place behind them
pub record Put (s : List ℕ) (at : ℕ) (text t : List ℕ) (k : ℕ) : Type 0 where
  pub stored : t ≡ sets s at text
  pub behind : k ≡ at + length text

-- a text is put into the slice o behind what is there, as far as there is room: the slice is p then, the same one, of the same length
pub record Puts (o : Out) (text : List ℕ) (p : Out) : Type 0 where
  pub same : p.bytes.ghost_name ≡ o.bytes.ghost_name
  pub stored : p.bytes.now ≡ sets o.bytes.now o.at text
  pub behind : p.at ≡ min (o.at + length text) (length o.bytes.now)
  pub long : length p.bytes.now ≡ length o.bytes.now

-- a number and a comma
unfoldable pub field : ℕ → List ℕ
field n = shown n ++ (44 ∷ [])

-- a number and CR LF
unfoldable pub ending : ℕ → List ℕ
ending n = shown n ++ (13 ∷ 10 ∷ [])

-- ---- lines, by the times of all events and the number of their first

abbrev pub ByEvent : Type 0
ByEvent = (ℕ → ℕ) → ℕ → List ℕ

-- the line of a point of cart j at cell c
unfoldable pub point_line : ℕ → ℕ → ByEvent
point_line j c time e = field e ++ (field j ++ (field c ++ ending (time e)))

-- the line of the start or the finish
unfoldable pub outer_line : ByEvent
outer_line time e = field e ++ (field 0 ++ ((44 ∷ []) ++ ending (time e)))

-- the lines of a move from cell c to cell d: leave point, approach point and entry
unfoldable pub move_lines : ℕ → ℕ → ℕ → ByEvent
move_lines j c d time e = point_line j c time e ++ (point_line j d time (e + 1) ++ point_line j d time (e + 2))

-- the lines of cart j after a step in cell c
unfoldable pub lines_after : ℕ → ℕ → List ℕ → ByEvent
lines_after j c [] time e = []
lines_after j c (d ∷ ds) time e = cond (eqb c d) (lines_after j d ds time e) (move_lines j c d time e ++ lines_after j d ds time (e + 3))

-- the lines of a path of cart j
unfoldable pub path_lines : ℕ → List ℕ → ByEvent
path_lines j [] time e = []
path_lines j (c ∷ cs) time e = point_line j c time e ++ lines_after j c cs time (e + 1)

-- the lines of paths, the first of cart j
unfoldable pub paths_lines : ℕ → List (List ℕ) → ByEvent
paths_lines j [] time e = []
paths_lines j (p ∷ ps) time e = path_lines j p time e ++ paths_lines (j + 1) ps time (e + length (points (visits_of p)))

-- all of it, where the finish is event n
unfoldable pub lines_text : (ℕ → ℕ) → ℕ → List (List ℕ) → List ℕ
lines_text time n ps = bytes "event,cart,cell,time\r\n" ++ (outer_line time 0 ++ (paths_lines 1 ps time 1 ++ outer_line time n))

-- ---- lines as the code has them

-- these lines, from the next event on
abbrev pub text_at : ByEvent → Lines → List ℕ
text_at lines l = lines (word_at 8 l.times.now) l.event

-- they are put, those of k events
pub record Prints (l : Lines) (lines : ByEvent) (k : ℕ) (m : Lines) : Type 0 where
  pub same : m.out.ghost_name ≡ l.out.ghost_name
  pub puts : Puts l.out.now (text_at lines l) m.out.now
  pub times : m.times.now ≡ l.times.now
  pub event : m.event ≡ l.event + k

-- Names every definition of this module, for a proof that computes with them all.
unfoldable pub open_lines : Unit {0}
unfolding field ending point_line outer_line move_lines lines_after path_lines paths_lines lines_text
open_lines = tt
