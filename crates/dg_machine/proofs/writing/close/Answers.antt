use Rattle.std.proofs.Common.{◌∙◌, ◌≡◌, ◌++◌, ◌∷◌, [], refl, sym, ap, arith, append-nil}
use Rattle.dg_arena.specs.Held.{meaning_of}
use Rattle.dg_machine.specs.Refs.{Keeps}
use Rattle.dg_machine.specs.declared.now.Side.TheVariants.{Head, Tail}
use Rattle.dg_machine.proofs.HeadLemmas.{keeps_same, keeps_on}
use Rattle.dg_machine.proofs.PathLemmas.{goes_back, fronts_cut}
use Rattle.dg_machine.proofs.WriteSteps.{closing_starts, closing_head, closing_holds, closing_pair, closing_full}
use Rattle.dg_machine.proofs.writing.close.Goals as goal

pub sides-init : goal.sides-init
sides-init c =
    let s = meaning_of c.args.arena.now in
    record { keeps = keeps_same c.args.arena.now; capacity = refl; on = ([], sym (append-nil c.args.path.now.items)); closing = λ p vs t at. closing_starts p vs t s c.args.path.now.items c.args.value c.args.arena.now.sound.heap_fits at }

pub returns-in-Head-clause-closed : goal.returns-in-Head-clause-closed
returns-in-Head-clause-closed c p vs t at =
    let is : c.sides.path.items ≡ c.pop.new.self.items ++ Head ∷ [] = c.in-Some.ensures.items ∙ ap (λ x. c.pop.new.self.items ++ x ∷ []) c.in-Head.is in
    closing_head p vs t (meaning_of c.args.arena.now) (meaning_of c.sides.arena) c.args.path.now.items c.sides.path.items c.pop.new.self.items c.push_reserved.new.self.items c.sides.value is c.push_reserved.ensures.items (c.sides.invariant.closing p vs t at)

pub returns-in-Head-clause-fronts : goal.returns-in-Head-clause-fronts
returns-in-Head-clause-fronts c =
    let front = c.pop.new.self.items in
    let was = c.args.path.now.items in
    let is : c.sides.path.items ≡ front ++ Head ∷ [] = c.in-Some.ensures.items ∙ ap (λ x. front ++ x ∷ []) c.in-Head.is in
    fronts_cut was c.push_reserved.new.self.items front (Tail c.sides.value ∷ []) (goes_back front c.sides.path.items was Head is c.sides.invariant.on) c.push_reserved.ensures.items (omega arith)

pub pair-requires-clause-head_in : goal.pair-requires-clause-head_in
pair-requires-clause-head_in c =
    let some = c.requires in
    let is : c.sides.path.items ≡ c.pop.new.self.items ++ Tail c.in-Tail.head ∷ [] = c.in-Some.ensures.items ∙ ap (λ x. c.pop.new.self.items ++ x ∷ []) c.in-Tail.is in
    let here = c.sides.invariant.closing some.0 some.1 some.2 some.3 in
    let both = closing_holds some.0 some.1 some.2 (meaning_of c.sides.arena) c.sides.path.items c.pop.new.self.items c.in-Tail.head c.sides.value is here.at in
    both.0

pub pair-requires-clause-tail_in : goal.pair-requires-clause-tail_in
pair-requires-clause-tail_in c =
    let some = c.requires in
    let is : c.sides.path.items ≡ c.pop.new.self.items ++ Tail c.in-Tail.head ∷ [] = c.in-Some.ensures.items ∙ ap (λ x. c.pop.new.self.items ++ x ∷ []) c.in-Tail.is in
    let here = c.sides.invariant.closing some.0 some.1 some.2 some.3 in
    let both = closing_holds some.0 some.1 some.2 (meaning_of c.sides.arena) c.sides.path.items c.pop.new.self.items c.in-Tail.head c.sides.value is here.at in
    both.1

pub returns-in-Err-clause-keeps : goal.returns-in-Err-clause-keeps
returns-in-Err-clause-keeps c =
    let further : Keeps c.sides.arena c.pair.new.self = record { kept = c.in-Err.ensures.kept; saved = c.in-Err.ensures.saved } in
    keeps_on c.args.arena.now c.sides.arena c.pair.new.self c.sides.invariant.keeps further

pub returns-in-Err-clause-closed : goal.returns-in-Err-clause-closed
returns-in-Err-clause-closed c p vs t at =
    let is : c.sides.path.items ≡ c.pop.new.self.items ++ Tail c.in-Tail.head ∷ [] = c.in-Some.ensures.items ∙ ap (λ x. c.pop.new.self.items ++ x ∷ []) c.in-Tail.is in
    closing_full p vs t (meaning_of c.args.arena.now) c.sides.arena c.pair.new.self c.args.path.now.items c.sides.path.items c.pop.new.self.items c.in-Tail.head c.sides.value c.in-Err.full is c.sides.invariant.keeps.kept c.in-Err.ensures.made (c.sides.invariant.closing p vs t at)

pub returns-in-Err-clause-fronts : goal.returns-in-Err-clause-fronts
returns-in-Err-clause-fronts c =
    let front = c.pop.new.self.items in
    let was = c.args.path.now.items in
    let is : c.sides.path.items ≡ front ++ Tail c.in-Tail.head ∷ [] = c.in-Some.ensures.items ∙ ap (λ x. front ++ x ∷ []) c.in-Tail.is in
    fronts_cut was front front [] (goes_back front c.sides.path.items was (Tail c.in-Tail.head) is c.sides.invariant.on) (sym (append-nil front)) (omega arith)

pub sides-preserved : goal.sides-preserved
sides-preserved c =
    let further : Keeps c.sides.arena c.pair.new.self = record { kept = c.in-Ok.ensures.kept; saved = c.in-Ok.ensures.saved } in
    let is : c.sides.path.items ≡ c.pop.new.self.items ++ Tail c.in-Tail.head ∷ [] = c.in-Some.ensures.items ∙ ap (λ x. c.pop.new.self.items ++ x ∷ []) c.in-Tail.is in
    record {
      keeps = keeps_on c.args.arena.now c.sides.arena c.pair.new.self c.sides.invariant.keeps further;
      capacity = c.in-Some.ensures.capacity ∙ c.sides.invariant.capacity;
      on = goes_back c.pop.new.self.items c.sides.path.items c.args.path.now.items (Tail c.in-Tail.head) is c.sides.invariant.on;
      closing = λ p vs t at. closing_pair p vs t (meaning_of c.args.arena.now) (meaning_of c.sides.arena) (meaning_of c.pair.new.self) c.args.path.now.items c.sides.path.items c.pop.new.self.items c.in-Tail.head c.sides.value c.in-Ok.pair is c.sides.invariant.keeps.kept c.in-Ok.ensures.kept c.in-Ok.ensures.made (c.sides.invariant.closing p vs t at);
    }
