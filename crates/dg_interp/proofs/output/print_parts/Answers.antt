use Rattle.std.proofs.Common.{refl, sym, subst, ◌∙◌, arith}
use Rattle.std.specs.Prelude.{Ok, Err}
use Rattle.dg_texts.proofs.NameLemmas.{pieces_named}
use Rattle.dg_texts.specs.Printing.{named, value_at}
use Rattle.dg_interp.specs.inside.Showing.{ShowsAll, BreaksSo, TellsPart, PrintsPart, as_events}
use Rattle.dg_interp.proofs.Pieces.{telling_starts, telling_ends, telling_on, telling_smaller, telling_breaks, none_left}
use Rattle.dg_interp.proofs.output.print_parts.Goals as goal

pub parts-init : goal.parts-init
parts-init g c = record {
  same = refl;
  saved = λ ms h. h;
  telling = telling_starts g.A.Showing.watching (g.B.Bindings.meaning c.args.store.now) (named c.args.words.now c.args.objects.now) c.args.value c.clear.new.self.items c.args.output.now.printer.spacer (c.args.output.now.printer.showing, c.args.sink.now) c.requires c.clear.ensures.items;
}

pub returns-in-Err-clause-printed : goal.returns-in-Err-clause-printed
returns-in-Err-clause-printed g c = λ p ws os.
    subst (λ ps. BreaksSo g.A.Showing.watching c.in-Err.fault (as_events ps) c.args.output.now.printer.spacer c.print_part.new.output.printer.spacer (c.args.output.now.printer.showing, c.args.sink.now) (c.print_part.new.output.printer.showing, c.print_part.new.sink)) (sym (pieces_named p c.args.words.now c.args.objects.now ws os (value_at (g.B.Bindings.meaning c.args.store.now) c.args.value)))
    (telling_breaks g.A.Showing.watching (g.B.Bindings.meaning c.args.store.now) (named c.args.words.now c.args.objects.now) c.args.value c.parts.part c.parts.output.parts.items c.args.output.now.printer.spacer c.parts.output.printer.spacer c.print_part.new.output.printer.spacer (c.args.output.now.printer.showing, c.args.sink.now) (c.parts.output.printer.showing, c.parts.sink) (c.print_part.new.output.printer.showing, c.print_part.new.sink) c.parts.invariant.telling c.in-Err.fault
    (subst (λ t. PrintsPart {T = Unit} g.A.Showing.watching t (named c.args.words.now c.args.objects.now) c.parts.part c.parts.output.parts.items c.print_part.new.output.parts.items c.parts.output.printer.spacer c.print_part.new.output.printer.spacer (c.parts.output.printer.showing, c.parts.sink) (c.print_part.new.output.printer.showing, c.print_part.new.sink) (Err c.in-Err.fault)) c.parts.invariant.same c.in-Err.ensures.printed))

pub returns-in-None-clause-printed : goal.returns-in-None-clause-printed
returns-in-None-clause-printed g c = λ p ws os.
    let t : TellsPart g.A.Showing.watching (g.B.Bindings.meaning c.args.store.now) (named c.args.words.now c.args.objects.now) c.parts.part c.parts.output.parts.items c.print_part.new.output.parts.items c.parts.output.printer.spacer c.print_part.new.output.printer.spacer (c.parts.output.printer.showing, c.parts.sink) (c.print_part.new.output.printer.showing, c.print_part.new.sink) = (subst (λ t. PrintsPart {T = Unit} g.A.Showing.watching t (named c.args.words.now c.args.objects.now) c.parts.part c.parts.output.parts.items c.print_part.new.output.parts.items c.parts.output.printer.spacer c.print_part.new.output.printer.spacer (c.parts.output.printer.showing, c.parts.sink) (c.print_part.new.output.printer.showing, c.print_part.new.sink) (Ok tt)) c.parts.invariant.same c.in_default.ensures.printed) in
    subst (λ ps. ShowsAll g.A.Showing.watching (as_events ps) c.args.output.now.printer.spacer c.print_part.new.output.printer.spacer (c.args.output.now.printer.showing, c.args.sink.now) (c.print_part.new.output.printer.showing, c.print_part.new.sink)) (sym (pieces_named p c.args.words.now c.args.objects.now ws os (value_at (g.B.Bindings.meaning c.args.store.now) c.args.value)))
    (telling_ends g.A.Showing.watching (g.B.Bindings.meaning c.args.store.now) (named c.args.words.now c.args.objects.now) c.args.value c.parts.part c.parts.output.parts.items c.print_part.new.output.parts.items c.args.output.now.printer.spacer c.parts.output.printer.spacer c.print_part.new.output.printer.spacer (c.args.output.now.printer.showing, c.args.sink.now) (c.parts.output.printer.showing, c.parts.sink) (c.print_part.new.output.printer.showing, c.print_part.new.sink) t.some t.piece c.parts.invariant.telling t.takes t.shown (none_left c.print_part.new.output.parts.items (omega (arith, c.in-None.ensures.cases.0))))

pub parts-preserved : goal.parts-preserved
parts-preserved g c =
    let t : TellsPart g.A.Showing.watching (g.B.Bindings.meaning c.args.store.now) (named c.args.words.now c.args.objects.now) c.parts.part c.parts.output.parts.items c.print_part.new.output.parts.items c.parts.output.printer.spacer c.print_part.new.output.printer.spacer (c.parts.output.printer.showing, c.parts.sink) (c.print_part.new.output.printer.showing, c.print_part.new.sink) = (subst (λ t. PrintsPart {T = Unit} g.A.Showing.watching t (named c.args.words.now c.args.objects.now) c.parts.part c.parts.output.parts.items c.print_part.new.output.parts.items c.parts.output.printer.spacer c.print_part.new.output.printer.spacer (c.parts.output.printer.showing, c.parts.sink) (c.print_part.new.output.printer.showing, c.print_part.new.sink) (Ok tt)) c.parts.invariant.same c.in_default.ensures.printed) in
    record {
      same = c.print_part.ensures.same ∙ c.parts.invariant.same;
      saved = λ ms k. c.print_part.ensures.saved ms (c.parts.invariant.saved ms k);
      telling = telling_on g.A.Showing.watching (g.B.Bindings.meaning c.args.store.now) (named c.args.words.now c.args.objects.now) c.args.value c.parts.part c.parts.output.parts.items c.print_part.new.output.parts.items c.args.output.now.printer.spacer c.parts.output.printer.spacer c.print_part.new.output.printer.spacer (c.args.output.now.printer.showing, c.args.sink.now) (c.parts.output.printer.showing, c.parts.sink) (c.print_part.new.output.printer.showing, c.print_part.new.sink) t.some t.piece c.parts.invariant.telling t.takes t.shown c.pop.new.self.items c.in-Some.next c.in-Some.ensures.items;
    }

pub parts-smaller : goal.parts-smaller
parts-smaller g c =
    let t : TellsPart g.A.Showing.watching (g.B.Bindings.meaning c.args.store.now) (named c.args.words.now c.args.objects.now) c.parts.part c.parts.output.parts.items c.print_part.new.output.parts.items c.parts.output.printer.spacer c.print_part.new.output.printer.spacer (c.parts.output.printer.showing, c.parts.sink) (c.print_part.new.output.printer.showing, c.print_part.new.sink) = (subst (λ t. PrintsPart {T = Unit} g.A.Showing.watching t (named c.args.words.now c.args.objects.now) c.parts.part c.parts.output.parts.items c.print_part.new.output.parts.items c.parts.output.printer.spacer c.print_part.new.output.printer.spacer (c.parts.output.printer.showing, c.parts.sink) (c.print_part.new.output.printer.showing, c.print_part.new.sink) (Ok tt)) c.parts.invariant.same c.in_default.ensures.printed) in
    telling_smaller g.A.Showing.watching (g.B.Bindings.meaning c.args.store.now) (named c.args.words.now c.args.objects.now) c.args.value c.parts.part c.parts.output.parts.items c.print_part.new.output.parts.items c.args.output.now.printer.spacer c.parts.output.printer.spacer c.print_part.new.output.printer.spacer (c.args.output.now.printer.showing, c.args.sink.now) (c.parts.output.printer.showing, c.parts.sink) (c.print_part.new.output.printer.showing, c.print_part.new.sink) t.some t.piece c.parts.invariant.telling t.takes c.pop.new.self.items c.in-Some.next c.in-Some.ensures.items
