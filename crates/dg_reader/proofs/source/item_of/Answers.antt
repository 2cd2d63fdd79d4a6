use Rattle.std.proofs.Common.{map, subst, sym}
use Rattle.dg_base.specs.TreeView.{item_view}
use Rattle.dg_base.specs.declared.refusal.ReadFault.{ReadFault}
use Rattle.dg_lex.specs.Tokens.{seen}
use Rattle.dg_base.specs.Faults.{IsFault}
use Rattle.dg_open.specs.inside.Views.{shape_view}
use Rattle.dg_reader.specs.Read as spec
use Rattle.dg_reader.proofs.FaultLemmas.{fault_map, ok_map, err_map}
use Rattle.dg_reader.proofs.ItemLemmas.{whole_item, faulty_item, open_item, stopped_item, indented_item}
use Rattle.dg_reader.proofs.source.item_of.Goals as goal

pub returns-then-not-tokens-clause-refused : goal.returns-then-not-tokens-clause-refused
returns-then-not-tokens-clause-refused c =
    subst (λ (f : ReadFault). IsFault (spec.IsRefusedAt c.args.before (map seen c.args.tokens.now)) f) (sym c.refusal.ensures)
    (indented_item c.args.before c.args.tokens.now _ c.requires.some c.requires.alone c.if-not-tokens.true)

pub returns-in-Ok-clause-item : goal.returns-in-Ok-clause-item
returns-in-Ok-clause-item c =
    ok_map c.allowed.result _ _ (λ item h. whole_item c.args.before c.args.tokens.now _ (shape_view c.in-Ok.shape) (item_view item) c.requires.some c.requires.alone c.if-not-tokens.false c.in-Ok.ensures.ok h.0 h.1) c.allowed.ensures.item

pub returns-in-Ok-clause-refused : goal.returns-in-Ok-clause-refused
returns-in-Ok-clause-refused c =
    err_map c.allowed.result _ _ (λ fault h. fault_map _ _ (λ r k. faulty_item c.args.before c.args.tokens.now _ (shape_view c.in-Ok.shape) r c.requires.some c.requires.alone c.if-not-tokens.false c.in-Ok.ensures.ok k) fault h) c.allowed.ensures.refused

pub returns-in-Err-Unclosed-clause-refused : goal.returns-in-Err-Unclosed-clause-refused
returns-in-Err-Unclosed-clause-refused c =
    subst (λ (f : ReadFault). IsFault (spec.IsRefusedAt c.args.before (map seen c.args.tokens.now)) f) (sym c.refusal-in-Err-Unclosed.ensures)
    (open_item c.args.before c.args.tokens.now _ c.requires.some c.requires.alone c.if-not-tokens.false (rw c.in-Err-Unclosed.field-0-is at c.in-Err-Unclosed.ensures.unclosed))

pub returns-in-Err-Unexpected-clause-refused : goal.returns-in-Err-Unexpected-clause-refused
returns-in-Err-Unexpected-clause-refused c =
    let stops = rw c.in-Err-Unexpected.field-0-is at c.in-Err-Unexpected.ensures.unexpected in
    let first = rw c.in-Err-Unexpected.field-0-is at c.in-Err-Unexpected.ensures.first in
    subst (λ (f : ReadFault). IsFault (spec.IsRefusedAt c.args.before (map seen c.args.tokens.now)) f) (sym c.refusal-in-Err-Unexpected.ensures)
    (stopped_item c.args.before c.args.tokens.now _ _ _ c.requires.some c.requires.alone c.if-not-tokens.false (rw (← c.in-Err-Unexpected.at-is) at stops.within) (rw (← c.in-Err-Unexpected.at-is) at first))
