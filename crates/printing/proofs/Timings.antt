-- What is printed of what a timetable answers. Assumes nothing.
use Rattle.std.specs.Prelude.{None, Some, Ok, Err}
use Prim.Native.Nat.{ℕ, ◌≤◌}
use native.Mathlib.Omega.{arith}
use mathlib.Core.Path.{◌≡◌, refl, ap, sym, ◌∙◌, subst}
use mathlib.Core.Bool.{true, true≢false}
use mathlib.Core.List.{List}
use lib.ListN.{length, get_or, replicate, length-replicate}
use borrow.Author.Tests.{le-leb}
use Rattle.laws.proofs.Options.{none-ne-some, some-injective}
use Rattle.words.specs.Words.{word_at}
use Rattle.rfc4180.specs.Text.{bytes}
use Rattle.schedule.specs.Timetable.{timetable}
use Rattle.schedule.specs.Lent.{Lent, long_enough, times_written}
use Rattle.schedule.proofs.Lent.{times_back}
use Rattle.slice.specs.PlanSlice.{Held, held}
use Rattle.hegtalim.specs.declared.TimeError.{TimeError}
use Rattle.hegtalim.specs.Answers.{Timed}
use Rattle.hegtalim.specs.Outcomes.{meets_needs, Timetabled, too_short, no_plan, timed, no_times}
use Rattle.hegtalim.proofs.Timing.{logged}
use Rattle.hegtalim.proofs.TimedPlans.{needs_there}
use Rattle.printing.specs.Text.{digits, shown, times_text, place_shown, refusal_text}
use Rattle.printing.specs.Output.{timed_output}
use Rattle.printing.proofs.EventTexts.{text_same}

-- the text of refusal 13
pub none_text : bytes "refusal,table,record\r\n13,,\r\n" ≡ refusal_text 13 0 0
unfolding bytes refusal_text place_shown shown digits
none_text = refl

-- the slices that are lent
abbrev lent : Lent
lent = record { times = replicate 32_768 0; chain_bounds = replicate 8192 0; chain_directions = replicate 4096 0 }

-- they are long enough
lent_long : (s : List ℕ) → 233_472 ≤ length s → meets_needs s lent ≡ true
unfolding long_enough
lent_long s long = needs_there s lent long (simp (le-leb 32_768 (length lent.times) (omega (arith, length-replicate {A = ℕ} 32_768 0))))

-- what is said of a plan that is held: never that the slices are too short, nor that there is no plan
abbrev pub Said : Held → Timed → Lent → Type 0
Said h (Err TimeError.TooShort) l' = ⊥
Said h (Err TimeError.NoPlan) l' = ⊥
Said h (Err (TimeError.NoTimes n)) l' = refusal_text 13 0 0 ≡ timed_output h.plan (timetable h.plan h.book)
Said h (Ok n) l' = times_text h.plan (word_at 8 l'.times) ≡ timed_output h.plan (timetable h.plan h.book)

says : (s : List ℕ) (long : 233_472 ≤ length s) (h : Held) → held s ≡ Some h → (x : Timed) (l' : Lent) → Timetabled s lent x l' → Said h x l'
unfolding timed_output
says s long h there x l' (too_short e) = true≢false (sym (lent_long s long) ∙ e)
says s long h there x l' (no_plan e f) = none-ne-some _ (sym f ∙ there)
says s long h there x l' (no_times e k f g is c) =
    let same : k ≡ h = some-injective _ _ (sym f ∙ there) in
    ap (timed_output h.plan) (sym (subst (λ (y : Held). timetable y.plan y.book ≡ None) same g))
says s long h there x l' (timed e k f t g) =
    let same : k ≡ h = some-injective _ _ (sym f ∙ there) in
    let there-is : timetable h.plan h.book ≡ Some t = subst (λ (y : Held). timetable y.plan y.book ≡ Some t) same g in
    text_same (word_at 8 (times_written t lent).times) (λ (v : ℕ). get_or t.times v 0) h.plan (times_back h.plan h.book (logged s h there lent (lent_long s long)) t there-is lent)
    ∙ ap (timed_output h.plan) (sym there-is)

pub said : (s : List ℕ) → 233_472 ≤ length s → (h : Held) → held s ≡ Some h → {x y : Timed} {l' : Lent} → Timetabled s lent x l' → x ≡ y → Said h y l'
said s long h there {x} {y} {l'} t q = subst (λ (z : Timed). Said h z l') q (says s long h there x l' t)
