use Rattle.std.proofs.Common.{sym, subst, Err, Ok, Some, None}
use Rattle.dg_unify.proofs.StoreLemmas.{walked_to}
use Rattle.dg_texts.specs.Printing.{named, PrintsNext}
use Rattle.dg_texts.proofs.PrintLemmas.{adds_none, single_at, single_printed, tail_printed, list_stops, pair_of}
use Rattle.dg_texts.proofs.printing.print_next.Goals as goal

pub returns-in-Err : goal.returns-in-Err
returns-in-Err g c =
    let s = g.B.Bindings.meaning c.args.store.now in
    subst (λ n. PrintsNext s (named c.args.words.now c.args.objects.now) n c.args.spacer.now c.print_piece.new.spacer (g.K.Sink.view c.args.sink.now) (g.K.Sink.view c.print_piece.new.sink) (Err c.in-Err.fault)) (sym c.in-Value.is)
    (list_stops s (g.met.B.Bindings.sound c.args.store.now) (named c.args.words.now c.args.objects.now) c.in-Value.value c.in-Pair.head c.in-Pair.tail c.args.spacer.now c.print_piece.new.spacer _ _ c.in-Err.fault c.in-Pair.ensures c.in-Err.ensures)

pub returns-in-Ok : goal.returns-in-Ok
returns-in-Ok g c =
    let s = g.B.Bindings.meaning c.args.store.now in
    subst (λ n. PrintsNext s (named c.args.words.now c.args.objects.now) n c.args.spacer.now c.print_piece.new.spacer (g.K.Sink.view c.args.sink.now) (g.K.Sink.view c.print_piece.new.sink) (Ok (Some (c.in-Pair.head, c.in-Pair.tail)))) (sym c.in-Value.is)
    (pair_of s (g.met.B.Bindings.sound c.args.store.now) c.in-Value.value c.in-Pair.head c.in-Pair.tail c.in-Pair.ensures, c.in-Ok.ensures)

pub returns-in-Err-print_single : goal.returns-in-Err-print_single
returns-in-Err-print_single g c =
    let s = g.B.Bindings.meaning c.args.store.now in
    subst (λ n. PrintsNext s (named c.args.words.now c.args.objects.now) n c.args.spacer.now c.print_single.new.spacer (g.K.Sink.view c.args.sink.now) (g.K.Sink.view c.print_single.new.sink) (Err c.in-Err-print_single.fault)) (sym c.in-Value.is)
    (single_printed s (named c.args.words.now c.args.objects.now) c.in-Value.value c.args.spacer.now c.print_single.new.spacer _ _ (Err c.in-Err-print_single.fault) (single_at s (g.met.B.Bindings.sound c.args.store.now) (named c.args.words.now c.args.objects.now) c.in-Value.value c.walk.result c.in_default.not-Pair c.walk.ensures)
    (c.in-Err-print_single.ensures (walked_to s c.in-Value.value) c.walk.ensures))

pub returns-in-Ok-print_single : goal.returns-in-Ok-print_single
returns-in-Ok-print_single g c =
    let s = g.B.Bindings.meaning c.args.store.now in
    subst (λ n. PrintsNext s (named c.args.words.now c.args.objects.now) n c.args.spacer.now c.print_single.new.spacer (g.K.Sink.view c.args.sink.now) (g.K.Sink.view c.print_single.new.sink) (Ok None)) (sym c.in-Value.is)
    (single_printed s (named c.args.words.now c.args.objects.now) c.in-Value.value c.args.spacer.now c.print_single.new.spacer _ _ (Ok tt) (single_at s (g.met.B.Bindings.sound c.args.store.now) (named c.args.words.now c.args.objects.now) c.in-Value.value c.walk.result c.in_default.not-Pair c.walk.ensures)
    (c.in-Ok-print_single.ensures (walked_to s c.in-Value.value) c.walk.ensures))

pub returns-in-Pair-walk : goal.returns-in-Pair-walk
returns-in-Pair-walk g c =
    let s = g.B.Bindings.meaning c.args.store.now in
    subst (λ n. PrintsNext s (named c.args.words.now c.args.objects.now) n c.args.spacer.now c.args.spacer.now (g.K.Sink.view c.args.sink.now) (g.K.Sink.view c.args.sink.now) (Ok (Some (c.in-Pair-walk.head, c.in-Pair-walk.others)))) (sym c.in-Tail.is)
    (pair_of s (g.met.B.Bindings.sound c.args.store.now) c.in-Tail.tail c.in-Pair-walk.head c.in-Pair-walk.others c.in-Pair-walk.ensures, adds_none c.args.spacer.now _)

pub returns-in-Err-print_end : goal.returns-in-Err-print_end
returns-in-Err-print_end g c =
    let s = g.B.Bindings.meaning c.args.store.now in
    subst (λ n. PrintsNext s (named c.args.words.now c.args.objects.now) n c.args.spacer.now c.print_end.new.spacer (g.K.Sink.view c.args.sink.now) (g.K.Sink.view c.print_end.new.sink) (Err c.in-Err-print_end.fault)) (sym c.in-Tail.is)
    (tail_printed s (named c.args.words.now c.args.objects.now) c.in-Tail.tail c.args.spacer.now c.print_end.new.spacer _ _ (Err c.in-Err-print_end.fault) (single_at s (g.met.B.Bindings.sound c.args.store.now) (named c.args.words.now c.args.objects.now) c.in-Tail.tail c.walk-in-Tail.result c.in_default-walk.not-Pair c.walk-in-Tail.ensures)
    (c.in-Err-print_end.ensures (walked_to s c.in-Tail.tail) c.walk-in-Tail.ensures))

pub returns-in-Ok-print_end : goal.returns-in-Ok-print_end
returns-in-Ok-print_end g c =
    let s = g.B.Bindings.meaning c.args.store.now in
    subst (λ n. PrintsNext s (named c.args.words.now c.args.objects.now) n c.args.spacer.now c.print_end.new.spacer (g.K.Sink.view c.args.sink.now) (g.K.Sink.view c.print_end.new.sink) (Ok None)) (sym c.in-Tail.is)
    (tail_printed s (named c.args.words.now c.args.objects.now) c.in-Tail.tail c.args.spacer.now c.print_end.new.spacer _ _ (Ok tt) (single_at s (g.met.B.Bindings.sound c.args.store.now) (named c.args.words.now c.args.objects.now) c.in-Tail.tail c.walk-in-Tail.result c.in_default-walk.not-Pair c.walk-in-Tail.ensures)
    (c.in-Ok-print_end.ensures (walked_to s c.in-Tail.tail) c.walk-in-Tail.ensures))
