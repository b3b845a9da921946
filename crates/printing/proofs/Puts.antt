-- Texts put into a slice, one behind the other. Assumes nothing.
use Prim.Native.Nat.{ℕ, ◌+◌, ◌-◌, ◌≤◌, min}
use native.Mathlib.Nat.{min-eq_left, min-eq_right, min-le_left, min-le_right}
use mathlib.Core.Logic.{inl, inr}
use native.Mathlib.Omega.{arith}
use mathlib.Core.Path.{◌≡◌, refl, ap, ap₂, sym, ◌∙◌, subst}
use mathlib.Core.List.{List, [], ◌++◌, append_assoc, append-nil}
use lib.ListN.{length, take, drop, length-append}
use lib.Seq.{sets, sets-eq, length-sets, drop-drop}
use borrow.Rule.Slice.PartMut.{put_mid}
use Rattle.laws.proofs.Tests.{below_or_not}
use Rattle.network.proofs.BoundStores.{sets_append, sets_past}
use Rattle.std.proofs.lemmas.List.{length-take-le, take_all}
use lib.ListN.{take-append-drop}
use Rattle.words.specs.Words.{word_at}
use Rattle.printing.specs.declared.lines.Out.{Out}
use Rattle.printing.specs.declared.events.Lines.{Lines}
use Rattle.printing.specs.Lines.{Put, Puts, ByEvent, text_at, Prints}

-- a piece behind another
pub put_then : {s : List ℕ} {at : ℕ} {a t : List ℕ} {m : ℕ} {b u : List ℕ} {k : ℕ} → Put s at a t m → Put t m b u k → Put s at (a ++ b) u k
put_then {s} {at} {a} {t} {m} {b} {u} {k} p q =
    record {
      stored = q.stored ∙ ap (λ (x : List ℕ). sets x m b) p.stored ∙ ap (λ (n : ℕ). sets (sets s at a) n b) p.behind ∙ sym (sets_append a b s at);
      behind = omega (arith, p.behind, q.behind, length-append a b);
    }

module _ {o p : Out} where
  -- the same text by another name
  pub puts_as : {a b : List ℕ} → a ≡ b → Puts o a p → Puts o b p
  puts_as e h = subst (λ x. Puts o x p) e h

  -- the same slice by another name
  pub puts_to : {a : List ℕ} {q : Out} → Puts o a p → q ≡ p → Puts o a q
  puts_to {a} h e = subst (Puts o a) (sym e) h

  -- a text behind another
  pub puts_then : {q : Out} {a b : List ℕ} → Puts o a p → Puts p b q → Puts o (a ++ b) q
  puts_then {q} {a} {b} h k =
      let s : List ℕ = o.bytes.now in
      let all : length (a ++ b) ≡ length a + length b = length-append a b in
      let same : q.bytes.now ≡ sets (sets s o.at a) p.at b = k.stored ∙ ap (λ x. sets x p.at b) h.stored in
      let long : length (sets s o.at a) ≡ length s = length-sets s o.at a in
      let (stored, behind) = elim (below_or_not (length s) (o.at + length a)) as (λ _. (q.bytes.now ≡ sets s o.at (a ++ b)) × (q.at ≡ min (o.at + length (a ++ b)) (length s))) [
        | inl l ↦
            let full : p.at ≡ length s = h.behind ∙ min-eq_right (omega arith) in (
              same ∙ sets_past b (sets s o.at a) p.at (omega (arith, full, long)) ∙ sym (sets_past b (sets s o.at a) (o.at + length a) (omega (arith, long))) ∙ sym (sets_append a b s o.at),
              k.behind ∙ min-eq_right (omega (arith, full, h.long)) ∙ h.long ∙ sym (min-eq_right (omega (arith, all))),
            )
        | inr g ↦
            let there : p.at ≡ o.at + length a = h.behind ∙ min-eq_left (omega arith) in (
              same ∙ ap (λ n. sets (sets s o.at a) n b) there ∙ sym (sets_append a b s o.at),
              k.behind ∙ ap₂ min (omega (arith, there, all)) h.long,
            )
      ] in
      record { same = k.same ∙ h.same; stored = stored; behind = behind; long = k.long ∙ h.long }

-- what has no room is not stored
sets_cut : (text s : List ℕ) (i n : ℕ) → n ≡ min (length text) (length s - i) → i ≤ length s → sets s i (take n text) ≡ sets s i text
sets_cut text s i n e h = elim (below_or_not (length s - i) (length text)) [
  | inl l ↦
      let full : n ≡ length s - i = e ∙ min-eq_right (omega arith) in
      let some : length (take n text) ≡ n = length-take-le n text (omega arith) in
      sym (sets_past (drop n text) (sets s i (take n text)) (i + length (take n text)) (omega (arith, full, some, length-sets s i (take n text))))
      ∙ sym (sets_append (take n text) (drop n text) s i) ∙ ap (sets s i) (take-append-drop n text)
  | inr g ↦ ap (sets s i) (take_all n text (omega (arith, e, min-eq_left {n = length text} {m = length s - i} (omega arith))))
]

-- a text copied between the bytes before it and those behind, as much as there is room for
pub text_puts : (o p : Out) (n k : ℕ) (text w : List ℕ) → n ≡ min (length text) (length o.bytes.now - o.at) → p.bytes.ghost_name ≡ o.bytes.ghost_name
    → p.bytes.now ≡ put_mid o.at k o.bytes.now w → p.at ≡ o.at + n → w ≡ take n text → k ≡ n → Puts o text p
text_puts o p n k text w fits same copied behind e q =
    let s : List ℕ = o.bytes.now in
    let less : n ≤ length text = omega (arith, fits, min-le_left (length text) (length s - o.at)) in
    let room : n ≤ length s - o.at = omega (arith, fits, min-le_right (length text) (length s - o.at)) in
    let some : length (take n text) ≡ n = length-take-le n text less in
    let stored : p.bytes.now ≡ sets s o.at text =
    copied ∙ ap₂ (λ (j : ℕ) (x : List ℕ). put_mid o.at j s x) q e ∙ ap (λ (x : List ℕ). take o.at s ++ (take n text ++ x)) (drop-drop n o.at s)
    ∙ sym (append_assoc (take o.at s) (take n text) (drop (o.at + n) s)) ∙ ap (λ (j : ℕ). (take o.at s ++ take n text) ++ drop (o.at + j) s) (sym some)
    ∙ sym (sets-eq (take n text) s o.at (omega (arith, some, o.within))) ∙ sets_cut text s o.at n fits o.within in
    record {
      same = same;
      stored = stored;
      behind = elim (below_or_not (length s - o.at) (length text)) [
        | inl l ↦ omega (arith, behind, o.within, fits, min-eq_right {n = length s - o.at} {m = length text} (omega arith), min-eq_right {n = length s} {m = o.at + length text} (omega (arith, o.within)))
        | inr g ↦ omega (arith, behind, o.within, fits, min-eq_left {n = length text} {m = length s - o.at} (omega arith), min-eq_left {n = o.at + length text} {m = length s} (omega (arith, o.within)))
      ];
      long = ap length stored ∙ length-sets s o.at text;
    }

-- ---- lines

-- lines behind others: their number and the times are what the others leave
pub prints_then : {l m n : Lines} {k j : ℕ} (a b : ByEvent) → Prints l a k m → Prints m b j n
    → Prints l (λ time e. a time e ++ b time (e + k)) (k + j) n
prints_then {l} {m} {n} {k} {j} a b p q =
    record {
      same = q.same ∙ p.same;
      puts = puts_then p.puts (puts_as (ap₂ (λ (s : List ℕ) (e : ℕ). b (word_at 8 s) e) p.times p.event) q.puts);
      times = q.times ∙ p.times;
      event = omega arith;
    }

-- ---- lines still to be put, one turn of a loop after the other

-- some text is put since l, and m reached: to be put are these lines yet, of j events, where all are of k events
pub record Printing (l : Lines) (whole : ByEvent) (k : ℕ) (m : Lines) (rest : ByEvent) (j : ℕ) : Type 0 where
  pub done : List ℕ
  pub same : m.out.ghost_name ≡ l.out.ghost_name
  pub puts : Puts l.out.now done m.out.now
  pub all : text_at whole l ≡ done ++ text_at rest m
  pub times : m.times.now ≡ l.times.now
  pub event : m.event + j ≡ l.event + k

-- nothing is put yet
pub printing_none : (l : Lines) (whole : ByEvent) (k : ℕ) → Printing l whole k l whole k
printing_none l whole k =
    record {
      done = [];
      same = refl;
      puts = record { same = refl; stored = refl; behind = omega (arith, min-eq_left l.out.now.within); long = refl };
      all = refl;
      times = refl;
      event = refl;
    }

module _ {l m : Lines} {whole rest : ByEvent} {k j : ℕ} (w : Printing l whole k m rest j) where
  -- the same is still to be put
  pub printing_same : (more : ByEvent) (i : ℕ) → text_at rest m ≡ text_at more m → j ≡ i → Printing l whole k m more i
  printing_same more i e q = record { done = w.done; same = w.same; puts = w.puts; all = w.all ∙ ap (λ x. w.done ++ x) e; times = w.times; event = omega arith }

  -- the next lines are put
  pub printing_more : {a : ByEvent} {i : ℕ} {n : Lines} (more : ByEvent) (j' : ℕ) → text_at rest m ≡ text_at a m ++ more (word_at 8 m.times.now) (m.event + i) → j ≡ i + j'
      → Prints m a i n → Printing l whole k n more j'
  printing_more {a} {i} {n} more j' e q p =
      record {
        done = w.done ++ text_at a m;
        same = p.same ∙ w.same;
        puts = puts_then w.puts p.puts;
        all = w.all ∙ ap (λ x. w.done ++ x) (e ∙ ap₂ (λ (s : List ℕ) (x : ℕ). text_at a m ++ more (word_at 8 s) x) (sym p.times) (sym p.event)) ∙ sym (append_assoc w.done (text_at a m) (text_at more n));
        times = p.times ∙ w.times;
        event = omega arith;
      }

  -- all are put
  pub printing_all : text_at rest m ≡ [] → j ≡ 0 → Prints l whole k m
  printing_all e q =
      record { same = w.same; puts = puts_as (sym (w.all ∙ ap (λ x. w.done ++ x) e ∙ append-nil w.done)) w.puts; times = w.times; event = omega arith }
