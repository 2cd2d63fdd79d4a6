-- The text of more that is printed, and the world behind the pieces of a value.
use Rattle.std.proofs.Common.{◌≡◌, ℕ, List, [], ◌∷◌, ◌++◌, sym, ap, ◌∙◌, subst, append_assoc, append-nil}
use Rattle.dg_base.specs.Written.{SinkView, Wrote, BrokeOff}
use Rattle.dg_base.proofs.WrittenLemmas.{wrote_on, broke_later}
use Rattle.dg_meaning.specs.World.{World, Print, Piece, Prints, prints}
use Rattle.dg_meaning.specs.Moves.{printed, all_printed}
use Rattle.dg_meaning.specs.Render.{nothing_met, met_from, render, render_from, growth}
use Rattle.dg_meaning.proofs.Dropping.{prints_append}
use Rattle.dg_spacing.specs.declared.spacer.Spacer.{Spacer}
use Rattle.dg_spacing.specs.Spacer.{StandsFor}
use Rattle.dg_texts.specs.Printing.{as_prints, growth_of, AddsAll}
use Rattle.dg_texts.proofs.PrintLemmas.{render_from_append}

-- what was printed behind some pieces
pub all_prints : (ps : List (List ℕ)) (w : World) → prints (all_printed ps w).events ≡ prints w.events ++ as_prints ps
all_prints [] w = sym (append-nil (prints w.events))
all_prints (p ∷ ps) w =
    all_prints ps (printed (Piece p) w)
    ∙ ap (λ l. l ++ as_prints ps) (prints_append w.events (Prints (Piece p) ∷ []))
    ∙ append_assoc (prints w.events) (Piece p ∷ []) (as_prints ps)

pub render_append : (xs ys : List Print) → render (xs ++ ys) ≡ render xs ++ render_from (met_from nothing_met xs) ys
unfolding render
render_append xs ys = render_from_append nothing_met xs ys

pub render_grows : (es : List Print) (e : Print) → render (es ++ e ∷ []) ≡ render es ++ growth es e
render_grows es e = render_append es (e ∷ []) ∙ ap (λ l. render es ++ l) (append-nil (growth es e))

-- the text of pieces was written behind that of others
pub text_grows : (s s' : Spacer) (start before now : SinkView) (es : List Print) (ps : List (List ℕ)) → StandsFor s es → Wrote start before (render es) → AddsAll ps s s' before now → Wrote start now (render (es ++ as_prints ps))
text_grows s s' start before now es ps stands wrote adds =
    subst (Wrote start now) (sym (render_append es (as_prints ps))) (wrote_on start before now (render es) (growth_of es ps) wrote (adds es stands).wrote)

-- the sink failed within it
pub text_breaks : (s : Spacer) (start before now : SinkView) (es : List Print) (ps : List (List ℕ)) → StandsFor s es → Wrote start before (render es) → ((xs : List Print) → StandsFor s xs → BrokeOff before now (growth_of xs ps)) → BrokeOff start now (render (es ++ as_prints ps))
text_breaks s start before now es ps stands wrote broke =
    subst (BrokeOff start now) (sym (render_append es (as_prints ps))) (broke_later start before now (render es) (growth_of es ps) wrote (broke es stands))
