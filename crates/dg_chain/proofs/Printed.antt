-- What was printed, with something more, and how it is closed.
use Rattle.std.proofs.Common.{◌≡◌, ℕ, Bool, true, false, List, [], ◌∷◌, ◌++◌, Option, Some, None, refl, sym, ap, ◌∙◌, subst}
use Rattle.std.specs.Prelude.{◌==◌, if◌then◌else◌}
use Rattle.std.proofs.lemmas.List.{append-nil}
use Rattle.dg_base.specs.declared.run.Ending.{Ending}
use Rattle.dg_meaning.specs.Render.{opens, nothing_met, met_from, met_behind, render_from, render, written}
use Rattle.dg_meaning.specs.Transcript.{line_of, newline_behind, closed_text}
use Rattle.dg_meaning.specs.World.{Print}
use Rattle.dg_mid.specs.State.{Lasting, Mid, Runs, Ended}
use Rattle.dg_mid.specs.Step.{Setting, does, runs, said_in, said_to, said, followed}
use Rattle.dg_mid.specs.declared.code.Op.{Op}
use Rattle.dg_rt.specs.Areas.{last_reg}
use Rattle.dg_rt.specs.Closings.{closing}
use Rattle.dg_rt.specs.Gaps.{last_word, Meets}
use Rattle.dg_rt.proofs.Counted.{met_on, render_on}
use Rattle.dg_turn.specs.Told.{Telling}
use Rattle.dg_turn.specs.Texts.{met_words, printed}
use Rattle.dg_turn.specs.Prints.{all_printed}
use Rattle.dg_turn.proofs.Meeting.{met_meets}
use Rattle.dg_chain.specs.Stands.{Lasts, Printed}
use Rattle.dg_chain.proofs.Lasting.{lasts_met}

-- ## Closings

abbrev newline : ℕ → List ℕ
newline last = if last == 0 then [] else 10 ∷ []

-- a newline comes behind a text of which something was printed
newline_is : (o : Option ℕ) → newline_behind o ≡ newline (last_word o)
newline_is None = refl
newline_is (Some b) = by_open (opens b)
  where
    by_open : (t : Bool) → newline_behind (Some b) ≡ newline (if t then 1 else 2)
    by_open true = refl
    by_open false = refl

-- The register of how the text ends says how it is closed.
pub closed_is : {t : Telling} {l : Lasting} (ps : List Print) (w : Printed t ps l) (e : Ending) → closed_text ps (line_of e) ≡ render ps ++ closing (w.out.words last_reg) e
closed_is ps w e =
    let last = (met_from nothing_met ps).last in
    ap (λ (l : List ℕ). render ps ++ (l ++ line_of e)) (newline_is last) ∙ ap (λ (i : ℕ). render ps ++ closing i e) (sym w.meets.last)

-- ## More

-- The text behind some things more.
pub render_all : (ps es : List Print) → render (ps ++ es) ≡ render ps ++ render_from (met_from nothing_met ps) es
unfolding render
render_all ps es = render_on nothing_met ps es

pub render_one : (ps : List Print) (e : Print) → render (ps ++ e ∷ []) ≡ render ps ++ written (met_from nothing_met ps) e
render_one ps e = render_all ps (e ∷ []) ∙ ap (λ (l : List ℕ). render ps ++ l) (append-nil (written (met_from nothing_met ps) e))

-- What is outside behind it.
abbrev pub printed_more : {t : Telling} {l : Lasting} (ps : List Print) (w : Printed t ps l) (e : Print) → Printed t (ps ++ e ∷ []) l
printed_more {t} {l} ps w e =
    let m = met_from nothing_met ps in
    record {
      out = printed m e w.out;
      written = ap (λ (l : List ℕ). l ++ written m e) w.written ∙ sym (render_one ps e);
      lasts = lasts_met t l (met_behind m e) (w.out.output ++ written m e) w.out w.lasts;
      meets = subst (Meets (met_words (met_behind m e) w.out.words)) (sym (met_on nothing_met ps (e ∷ []))) (met_meets (met_behind m e) w.out.words);
    }

-- What is outside behind some things more.
abbrev pub printed_all : {t : Telling} {l : Lasting} (ps : List Print) (w : Printed t ps l) (es : List Print) → Printed t (ps ++ es) l
printed_all {t} {l} ps w es =
    let m = met_from nothing_met ps in
    record {
      out = all_printed m es w.out;
      written = ap (λ (l : List ℕ). l ++ render_from m es) w.written ∙ sym (render_all ps es);
      lasts = lasts_met t l (met_from m es) (w.out.output ++ render_from m es) w.out w.lasts;
      meets = subst (Meets (met_words (met_from m es) w.out.words)) (sym (met_on nothing_met ps es)) (met_meets (met_from m es) w.out.words);
    }

-- The same where this lasts too.
abbrev pub as_lasts : {t : Telling} {ps : List Print} {l : Lasting} → Printed t ps l → (l' : Lasting) → l' ≡ l → Printed t ps l'
as_lasts {t} w l' e = record {
  out = w.out;
  written = w.written;
  meets = w.meets;
  lasts = subst (λ (k : Lasting). Lasts t k w.out) (sym e) w.lasts;
}

-- ## What a step prints

-- What the instruction at hand prints is printed.
pub said_by_op : (set : Setting) (ps : List Print) (m : Mid) (x : Op) (rest : List Op) → m.ops ≡ x ∷ rest → followed ps (said set (Runs m)) ≡ followed ps (said_to (said_in set m (x ∷ rest)) (does set x (record m { ops = rest })))
said_by_op set ps m x rest e = ap (λ (l : List Op). followed ps (said_to (said_in set m l) (runs set l m))) e

-- Nothing is where the run ends.
pub said_at_end : (l : List Print) (e : Ending) → said_to l (Ended e) ≡ []
said_at_end [] e = refl
said_at_end (p ∷ l) e = refl

-- A step that goes on prints all that it says.
pub said_on : (ps es : List Print) (m : Mid) → followed ps (said_to es (Runs m)) ≡ ps ++ es
said_on ps [] m = sym (append-nil ps)
said_on ps (e ∷ es) m = refl
