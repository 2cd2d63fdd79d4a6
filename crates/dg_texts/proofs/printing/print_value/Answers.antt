use Rattle.std.proofs.Common.{◌≡◌, ◌∙◌, ◌<◌, [], refl, sym, subst, length, append-nil, Err, Ok, Some, None}
use Rattle.dg_meaning.specs.Pieces.{pieces}
use Rattle.dg_texts.proofs.NameLemmas.{pieces_named}
use Rattle.dg_texts.specs.Printing.{named, value_at, PrintsNext}
use Rattle.dg_texts.proofs.PrintLemmas.{printed_as, Printing, printing_starts, printing_stops, printing_ends, printing_up, printing_room, printing_into}
use Rattle.dg_texts.specs.declared.printing.Next.TheVariants as next
use Rattle.dg_texts.proofs.printing.print_value.Goals as goal

pub parts-init : goal.parts-init
parts-init g c =
    let s = g.B.Bindings.meaning c.args.store.now in
    let ws = g.B.Bindings.waits c.args.store.now in
    let none : g.B.Bindings.waits c.forget.new.self ≡ [] = c.forget.ensures.waits ws [] (sym (append-nil ws)) refl in
    record {
      same = c.forget.ensures.same;
      saved = c.forget.ensures.saved;
      printing = subst (λ l. Printing s (named c.args.words.now c.args.objects.now) c.args.value (next.Value c.args.value) l c.args.spacer.now c.args.spacer.now (g.K.Sink.view c.args.sink.now) (g.K.Sink.view c.args.sink.now)) (sym none) (printing_starts s (named c.args.words.now c.args.objects.now) c.args.value c.args.spacer.now (g.K.Sink.view c.args.sink.now) c.requires);
    }

pub returns-in-Err-clause-printed : goal.returns-in-Err-clause-printed
returns-in-Err-clause-printed g c = λ p ws os.
    let s = g.B.Bindings.meaning c.args.store.now in
    printed_as (pieces (named c.args.words.now c.args.objects.now) (value_at s c.args.value)) (pieces p (value_at s c.args.value)) c.args.spacer.now c.print_next.new.spacer (g.K.Sink.view c.args.sink.now) (g.K.Sink.view c.print_next.new.sink) (Err c.in-Err.fault) (pieces_named p c.args.words.now c.args.objects.now ws os (value_at s c.args.value))
    (printing_stops s (g.met.B.Bindings.placed c.args.store.now) (named c.args.words.now c.args.objects.now) c.args.value c.parts.next (g.B.Bindings.waits c.parts.store) c.args.spacer.now c.parts.spacer c.print_next.new.spacer (g.K.Sink.view c.args.sink.now) (g.K.Sink.view c.parts.sink) (g.K.Sink.view c.print_next.new.sink) c.parts.invariant.printing c.in-Err.fault
    (subst (λ t. PrintsNext t (named c.args.words.now c.args.objects.now) c.parts.next c.parts.spacer c.print_next.new.spacer (g.K.Sink.view c.parts.sink) (g.K.Sink.view c.print_next.new.sink) (Err c.in-Err.fault)) c.parts.invariant.same c.in-Err.ensures))

pub put_off-requires : goal.put_off-requires
put_off-requires g c =
    let s = g.B.Bindings.meaning c.args.store.now in
    let same = c.parts.invariant.same in
    let printed : PrintsNext (g.B.Bindings.meaning c.parts.store) (named c.args.words.now c.args.objects.now) c.parts.next c.parts.spacer c.print_next.new.spacer (g.K.Sink.view c.parts.sink) (g.K.Sink.view c.print_next.new.sink) (Ok (Some (c.in-Ok-Some.head, c.in-Ok-Some.tail))) = rw c.in-Ok-Some.field-0-is at c.in-Ok-Some.ensures in
    let here = subst (λ t. PrintsNext t (named c.args.words.now c.args.objects.now) c.parts.next c.parts.spacer c.print_next.new.spacer (g.K.Sink.view c.parts.sink) (g.K.Sink.view c.print_next.new.sink) (Ok (Some (c.in-Ok-Some.head, c.in-Ok-Some.tail)))) same printed in
    subst (λ t. length (g.B.Bindings.waits c.parts.store) < t.places) (sym same) (printing_room s (g.met.B.Bindings.placed c.args.store.now) (named c.args.words.now c.args.objects.now) c.args.value c.parts.next (g.B.Bindings.waits c.parts.store) c.args.spacer.now c.parts.spacer c.print_next.new.spacer (g.K.Sink.view c.args.sink.now) (g.K.Sink.view c.parts.sink) (g.K.Sink.view c.print_next.new.sink) c.parts.invariant.printing c.in-Ok-Some.head c.in-Ok-Some.tail here.0 c.requires)

pub parts-preserved-in-Ok-Some : goal.parts-preserved-in-Ok-Some
parts-preserved-in-Ok-Some g c =
    let s = g.B.Bindings.meaning c.args.store.now in
    let same = c.parts.invariant.same in
    let printed : PrintsNext (g.B.Bindings.meaning c.parts.store) (named c.args.words.now c.args.objects.now) c.parts.next c.parts.spacer c.print_next.new.spacer (g.K.Sink.view c.parts.sink) (g.K.Sink.view c.print_next.new.sink) (Ok (Some (c.in-Ok-Some.head, c.in-Ok-Some.tail))) = rw c.in-Ok-Some.field-0-is at c.in-Ok-Some.ensures in
    let here = subst (λ t. PrintsNext t (named c.args.words.now c.args.objects.now) c.parts.next c.parts.spacer c.print_next.new.spacer (g.K.Sink.view c.parts.sink) (g.K.Sink.view c.print_next.new.sink) (Ok (Some (c.in-Ok-Some.head, c.in-Ok-Some.tail)))) same printed in
    record {
      same = c.put_off.ensures.same ∙ same;
      saved = λ ms k. c.put_off.ensures.saved ms (c.parts.invariant.saved ms k);
      printing = subst (λ l. Printing s (named c.args.words.now c.args.objects.now) c.args.value (next.Value c.in-Ok-Some.head) l c.args.spacer.now c.print_next.new.spacer (g.K.Sink.view c.args.sink.now) (g.K.Sink.view c.print_next.new.sink)) (sym c.put_off.ensures.waits)
          (printing_into s (g.met.B.Bindings.placed c.args.store.now) (named c.args.words.now c.args.objects.now) c.args.value c.parts.next (g.B.Bindings.waits c.parts.store) c.args.spacer.now c.parts.spacer c.print_next.new.spacer (g.K.Sink.view c.args.sink.now) (g.K.Sink.view c.parts.sink) (g.K.Sink.view c.print_next.new.sink) c.parts.invariant.printing c.in-Ok-Some.head c.in-Ok-Some.tail here.0 here.1);
    }

pub returns-in-None-clause-printed : goal.returns-in-None-clause-printed
returns-in-None-clause-printed g c = λ p ws os.
    let s = g.B.Bindings.meaning c.args.store.now in
    printed_as (pieces (named c.args.words.now c.args.objects.now) (value_at s c.args.value)) (pieces p (value_at s c.args.value)) c.args.spacer.now c.print_next.new.spacer (g.K.Sink.view c.args.sink.now) (g.K.Sink.view c.print_next.new.sink) (Ok tt) (pieces_named p c.args.words.now c.args.objects.now ws os (value_at s c.args.value))
    (printing_ends s (g.met.B.Bindings.placed c.args.store.now) (named c.args.words.now c.args.objects.now) c.args.value c.parts.next (g.B.Bindings.waits c.parts.store) c.args.spacer.now c.parts.spacer c.print_next.new.spacer (g.K.Sink.view c.args.sink.now) (g.K.Sink.view c.parts.sink) (g.K.Sink.view c.print_next.new.sink) c.parts.invariant.printing c.in-None.ensures.taken.0
    (subst (λ t. PrintsNext t (named c.args.words.now c.args.objects.now) c.parts.next c.parts.spacer c.print_next.new.spacer (g.K.Sink.view c.parts.sink) (g.K.Sink.view c.print_next.new.sink) (Ok None)) c.parts.invariant.same (rw c.in-Ok-None.field-0-is at c.in-Ok-None.ensures)))

pub parts-preserved : goal.parts-preserved
parts-preserved g c =
    let s = g.B.Bindings.meaning c.args.store.now in
    let printed : PrintsNext (g.B.Bindings.meaning c.parts.store) (named c.args.words.now c.args.objects.now) c.parts.next c.parts.spacer c.print_next.new.spacer (g.K.Sink.view c.parts.sink) (g.K.Sink.view c.print_next.new.sink) (Ok None) = rw c.in-Ok-None.field-0-is at c.in-Ok-None.ensures in
    record {
      same = c.in-Some.ensures.same ∙ c.parts.invariant.same;
      saved = λ ms k. c.in-Some.ensures.saved ms (c.parts.invariant.saved ms k);
      printing = printing_up s (g.met.B.Bindings.placed c.args.store.now) (named c.args.words.now c.args.objects.now) c.args.value c.parts.next (g.B.Bindings.waits c.parts.store) c.args.spacer.now c.parts.spacer c.print_next.new.spacer (g.K.Sink.view c.args.sink.now) (g.K.Sink.view c.parts.sink) (g.K.Sink.view c.print_next.new.sink) c.parts.invariant.printing c.in-Some.wait (g.B.Bindings.waits c.take_up.new.self) c.in-Some.ensures.taken
          (subst (λ t. PrintsNext t (named c.args.words.now c.args.objects.now) c.parts.next c.parts.spacer c.print_next.new.spacer (g.K.Sink.view c.parts.sink) (g.K.Sink.view c.print_next.new.sink) (Ok None)) c.parts.invariant.same printed);
    }
