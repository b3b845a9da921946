-- A log replayed from bytes, one report after the other: what holds before each, and what each way out gives. Assumes nothing.
use Rattle.std.specs.Prelude.{None}
use Prim.Native.Nat.{ℕ, zero, suc, ◌+◌, ◌*◌, ◌-◌, ◌≤◌, ◌<◌}
use native.Mathlib.Numerals.{add-one}
use native.Mathlib.Omega.{arith}
use mathlib.Core.Path.{◌≡◌, refl, ap, sym, ◌∙◌}
use mathlib.Core.Bool.{Bool, true, false, ◌&&◌}
use mathlib.Core.List.{List, [], ◌∷◌, ◌++◌, map}
use lib.Dec.{leb}
use Rattle.std.proofs.lemmas.Bool.Decides.{nat_tests}
use lib.ListN.{length, get_or, take, drop, set, replicate, length-append, length-map, length-set, get_or-replicate, drop_of_length-le}
use lib.Seq.{drop-cons, drop-drop}
use Rattle.words.specs.Words.{little, word_at}
use Rattle.floor.specs.Plan.{Plan}
use Rattle.network.specs.Events.{Route, routes_of}
use Rattle.schedule.specs.Book.{◌at◌, Book, first_book, is_there, passed_by, has_next, in_time, acceptable, pass_next, replay}
use Rattle.schedule.proofs.Log.{replay_on}
use Rattle.book.specs.Log.{entries}
use Rattle.book.specs.Replaying.{next_fits, time_fits, report_fits, Firsts, Counted, Replayed}
use Rattle.book.proofs.Starts.{points_between}

-- ---- the reports in bytes

-- the report at hand, and those after it
pub entry_at : (cs ts : List ℕ) (i : ℕ) → i < length cs
    → entries (drop i cs) (drop (8 * i) ts) ≡ (get_or cs i 0 at word_at 8 ts i) ∷ entries (drop (i + 1) cs) (drop (8 * (i + 1)) ts)
unfolding entries word_at
entry_at cs ts i h =
    let next : 8 * i + 8 ≡ 8 * (i + 1) = omega arith in
    ap (λ (l : List ℕ). entries l (drop (8 * i) ts)) (drop-cons cs i 0 h)
    ∙ ap (λ (l : List ℕ). (get_or cs i 0 at little (take 8 (drop (8 * i) ts))) ∷ entries (drop (suc i) cs) l) (drop-drop 8 (8 * i) ts)
    ∙ ap (λ (n : ℕ). (get_or cs i 0 at little (take 8 (drop (8 * i) ts))) ∷ entries (drop (suc i) cs) (drop n ts)) next
    ∙ ap (λ (n : ℕ). (get_or cs i 0 at little (take 8 (drop (8 * i) ts))) ∷ entries (drop n cs) (drop (8 * (i + 1)) ts)) (sym (add-one i))

-- ---- before each report

-- the book so far, and the reports still to come
pub record Before (p : Plan) (carts : ℕ) (cs ts counts : List ℕ) (clock i : ℕ) : Type 0 where
  pub book : Book
  pub rest : replay p (first_book p) (entries cs ts) ≡ replay p book (entries (drop i cs) (drop (8 * i) ts))
  pub clock_is : book.clock ≡ clock
  pub kept : Counted book carts counts

-- of the first book each list has one time
first_one : (rs : List Route) (j : ℕ) → j < length rs → length {A = ℕ} (get_or (map (λ (r : Route). 0 ∷ []) rs) j []) ≡ 1
first_one [] j h = absurd (omega arith)
first_one (r ∷ rs) zero h = refl
first_one (r ∷ rs) (suc j) h = first_one rs j (omega arith)

-- a point more at one place, and no other
one_counted : (counts : List ℕ) (old : List (List ℕ)) (k j t : ℕ) → j < length counts → j < length old → get_or counts j 0 ≡ length (get_or old j [])
    → get_or (set counts k (get_or counts k 0 + 1)) j 0 ≡ length (get_or (set old k (get_or old k [] ++ (t ∷ []))) j [])
one_counted [] old k j t h g e = absurd (omega arith)
one_counted (x ∷ xs) [] k j t h g e = absurd (omega arith)
one_counted (x ∷ xs) (y ∷ ys) zero zero t h g e = omega (arith, e, length-append y (t ∷ []))
one_counted (x ∷ xs) (y ∷ ys) zero (suc j) t h g e = e
one_counted (x ∷ xs) (y ∷ ys) (suc k) zero t h g e = e
one_counted (x ∷ xs) (y ∷ ys) (suc k) (suc j) t h g e = one_counted xs ys k j t (omega arith) (omega arith) e

module _ (p : Plan) (carts : ℕ) (firsts cs ts : List ℕ) (f : Firsts p carts firsts) where
  -- none is replayed yet
  pub before_first : (counts : List ℕ) → carts ≤ 64 → counts ≡ replicate 64 1 → (clock : ℕ) → clock ≡ 0 → Before p carts cs ts counts clock 0
  unfolding first_book
  before_first counts h e clock z =
      record {
        book = first_book p;
        rest = refl;
        clock_is = sym z;
        kept =
            record {
              counted = λ j l.
                  let inside : j < length (routes_of p) = omega (arith, f.routes_are) in
                  ap (λ (x : List ℕ). get_or x j 0) e ∙ get_or-replicate 64 j 1 0 (omega arith) ∙ sym (first_one (routes_of p) j inside);
              carts_are = length-map (routes_of p) (λ (r : Route). 0 ∷ []) ∙ f.routes_are;
            };
      }

  -- a cart has a point to pass where the counts of a book say so
  pub next_is : (b : Book) (counts : List ℕ) → Counted b carts counts → (c t : ℕ) → next_fits firsts carts counts c ≡ has_next p b (c at t)
  unfolding next_fits has_next is_there passed_by
  next_is b counts k c t = grind (arith, nat_tests, k.counted (c - 1), points_between p carts firsts f c, f.carts_are)

  module _ (counts : List ℕ) (clock i : ℕ) (b : Before p carts cs ts counts clock i) (l : i < length cs) where
    -- the report at hand: its cart c, and its time t
    module _ (c t : ℕ) (c-is : c ≡ get_or cs i 0) (t-is : t ≡ word_at 8 ts i) where
      -- the rest is this report and those after it
      on : replay p (first_book p) (entries cs ts) ≡ replay p b.book ((c at t) ∷ entries (drop (i + 1) cs) (drop (8 * (i + 1)) ts))
      on =
          b.rest ∙ ap (replay p b.book) (entry_at cs ts i l
          ∙ ap (λ (n : ℕ). (n at word_at 8 ts i) ∷ entries (drop (i + 1) cs) (drop (8 * (i + 1)) ts)) (sym c-is)
          ∙ ap (λ (n : ℕ). (c at n) ∷ entries (drop (i + 1) cs) (drop (8 * (i + 1)) ts)) (sym t-is))

      -- it is accepted where it fits
      accepted_is : report_fits firsts carts counts clock c t ≡ acceptable p b.book (c at t)
      unfolding report_fits time_fits acceptable in_time
      accepted_is =
          ap (λ (x : Bool). x && (leb clock t && leb t 1_000_000_000_000)) (next_is b.book counts b.kept c t)
          ∙ ap (λ (n : ℕ). has_next p b.book (c at t) && (leb n t && leb t 1_000_000_000_000)) (sym b.clock_is)

      -- where it does not, there is no book
      pub stopped : report_fits firsts carts counts clock c t ≡ false → replay p (first_book p) (entries cs ts) ≡ None
      unfolding replay
      stopped h =
          on
          ∙ ap (λ (x : Bool). elim x [ true ↦ replay p (pass_next b.book (c at t)) (entries (drop (i + 1) cs) (drop (8 * (i + 1)) ts)) | false ↦ None ])
          (sym accepted_is ∙ h)

      -- else the next is at hand
      pub before_next : report_fits firsts carts counts clock c t ≡ true → carts ≤ length counts → (counts' : List ℕ) → counts' ≡ set counts (c - 1) (get_or counts (c - 1) 0 + 1)
          → (clock' : ℕ) → clock' ≡ t → Before p carts cs ts counts' clock' (i + 1)
      unfolding pass_next passed_by
      before_next fits room counts' q clock' k =
          let old : List (List ℕ) = b.book.passed in
          record {
            book = pass_next b.book (c at t);
            rest = on ∙ replay_on p b.book (c at t) (entries (drop (i + 1) cs) (drop (8 * (i + 1)) ts)) (sym accepted_is ∙ fits);
            clock_is = sym k;
            kept =
                record {
                  counted = λ j l.
                      ap (λ (x : List ℕ). get_or x j 0) q
                      ∙ one_counted counts old (c - 1) j t (omega (arith, room, l)) (omega (arith, b.kept.carts_are, l)) (b.kept.counted j l);
                  carts_are = length-set old (c - 1) (get_or old (c - 1) [] ++ (t ∷ [])) ∙ b.kept.carts_are;
                };
          }

-- none is left: this is the book
pub replayed : (p : Plan) (carts : ℕ) (cs ts counts : List ℕ) (clock i : ℕ) → Before p carts cs ts counts clock i → length cs ≤ i → Replayed p (entries cs ts) carts counts clock
unfolding replay entries
replayed p carts cs ts counts clock i b h =
    let none_left : drop i cs ≡ [] = drop_of_length-le cs {i = i} h in
    record {
      book = b.book;
      replays = b.rest ∙ ap (λ (l : List ℕ). replay p b.book (entries l (drop (8 * i) ts))) none_left;
      clock_is = b.clock_is;
      counted = b.kept;
    }
