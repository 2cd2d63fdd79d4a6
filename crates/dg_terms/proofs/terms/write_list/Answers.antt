use Rattle.std.proofs.Common.{rules, ◌≡◌, ◌+◌, ◌*◌, List, [], ◌∷◌, ◌++◌, reverse, refl, sym, ap, ◌∙◌, arith, subst, length, map}
use Rattle.std.specs.Prelude.{Result, Ok, Err, MatchResult, IsErrAnd}
use Rattle.std.specs.List.{sum_by}
use Rattle.std.proofs.lemmas.List.Sums.{sum_by-append}
use Rattle.dg_base.specs.Terms.{nodes}
use Rattle.dg_base.specs.declared.program.Term.{Term}
use Rattle.dg_meaning.specs.Cells.{cells}
use Rattle.dg_unify.specs.Store.{told}
use Rattle.dg_unify.specs.declared.bindings.Ref.{Ref}
use Rattle.dg_unify.specs.declared.bindings.Full.{Full}
use Rattle.dg_terms.specs.Terms.{Overflows}
use Rattle.dg_unify.proofs.StoreLemmas.{kept_on, kept_same}
use Rattle.dg_terms.specs.declared.terms.Open.{Open}
use Rattle.dg_terms.proofs.TermLemmas.{all_kept, map_kept, pair_nodes}
use Rattle.dg_terms.proofs.NestLemmas.{Writing, writing_starts, writing_on, writing_opens, writing_full, writing_cut, writing_ends, writing_next, reverse_push, stack_back, elements_hold}
use Rattle.dg_terms.proofs.terms.write_list.Goals as goal

pub lists-init : goal.lists-init
lists-init g c =
    let old = g.B.Bindings.meaning c.args.store.now in
    let high : c.len.result ≡ length c.args.stack.now.items = search rules in
    record {
      kept = kept_same old;
      saved = λ ms h. h;
      writing = λ program e.
          subst (λ (os : List Open). Writing program (map (told old) c.args.env.now) c.args.term.now c.args.term.now (reverse os) c.len.result old old c.args.stack.now.items c.args.stack.now.items) (sym c.new-around.ensures.items)
          (writing_starts program (map (told old) c.args.env.now) c.args.term.now c.len.result old c.args.stack.now.items (g.met.B.Bindings.within c.args.store.now) high);
    }

-- what is wrong is handed on
handed_on : (result : Result Ref Full) (e : Full) (P : Ref → Type 0) (Q : Full → Type 0) → IsErrAnd result (λ x. x ≡ e) → Q e → MatchResult result P Q
handed_on (Ok r) e P Q is q = absurd is
handed_on (Err x) e P Q is q = subst Q (sym is) q

pub returns-in_err-last-clause-written : goal.returns-in_err-last-clause-written
returns-in_err-last-clause-written g c = λ program e.
    let old = g.B.Bindings.meaning c.args.store.now in
    handed_on c.from_residual.result c.in_err-last.field-0.0 _ (Overflows (cells program (c.args.term.now ∷ [])) old) c.from_residual.ensures.1
    (writing_full c.lists.invariant.kept (c.lists.invariant.writing program e) c.in_err-last.field-0.0 (c.in_err-last.ensures.written program e))

pub lists-smaller-in-Pair : goal.lists-smaller-in-Pair
lists-smaller-in-Pair g c =
    let f = λ (o : Open). 1 + 2 * length (nodes o.left.now) in
    let list : Open = record { height = c.lists.list.height; left = c.get-list.result } in
    let items : c.push.new.self.items ≡ c.lists.around.items ++ list ∷ [] = search rules in
    let last : sum_by f (list ∷ []) ≡ 0 + f list = refl in
    let all = ap (sum_by f) items ∙ sum_by-append f c.lists.around.items (list ∷ []) in
    omega (arith, all, last, pair_nodes c.in_ok-last.last.now c.in-Pair.head c.in-Pair.tail c.in-Pair.is, ap (λ (x : Term). length (nodes x)) c.get.ensures, ap (λ (x : Term). length (nodes x)) c.get-list.ensures, c.in_ok-last.ensures.no_more)

pub lists-preserved-in-Pair : goal.lists-preserved-in-Pair
lists-preserved-in-Pair g c =
    let old = g.B.Bindings.meaning c.args.store.now in
    let now = g.B.Bindings.meaning c.lists.store in
    let new = g.B.Bindings.meaning c.write_heads.new.store in
    let env = map (told old) c.args.env.now in
    let list : Open = record { height = c.lists.list.height; left = c.get-list.result } in
    let items : c.push.new.self.items ≡ c.lists.around.items ++ list ∷ [] = search rules in
    let high : c.len-in-Pair.result ≡ length c.write_heads.new.to.items = search rules in
    record {
      kept = kept_on old now new c.lists.invariant.kept c.in_ok-last.ensures.kept;
      saved = λ ms h. c.in_ok-last.ensures.saved ms (c.lists.invariant.saved ms h);
      writing = λ program e.
          let on = writing_on c.lists.invariant.kept c.in_ok-last.ensures.kept (map_kept old now c.args.env.now c.lists.invariant.kept c.requires.env) (c.lists.invariant.writing program e) (c.in_ok-last.ensures.written program e) in
          subst (λ (ps : List Open). Writing program env c.args.term.now c.get.result.now ps c.len-in-Pair.result old new c.args.stack.now.items c.write_heads.new.to.items) (sym (reverse_push c.lists.around.items c.push.new.self.items list items))
          (writing_opens list c.in-Pair.is c.get.ensures c.get-list.ensures refl high on);
    }

pub end_list-requires-clause-env : goal.end_list-requires-clause-env
end_list-requires-clause-env g c =
    let old = g.B.Bindings.meaning c.args.store.now in
    let new = g.B.Bindings.meaning c.write_heads.new.store in
    all_kept old new c.args.env.now (kept_on old (g.B.Bindings.meaning c.lists.store) new c.lists.invariant.kept c.in_ok-last.ensures.kept) c.requires.env

pub end_list-requires-clause-height : goal.end_list-requires-clause-height
end_list-requires-clause-height g c =
    let old = g.B.Bindings.meaning c.args.store.now in
    let now = g.B.Bindings.meaning c.lists.store in
    (writing_on c.lists.invariant.kept c.in_ok-last.ensures.kept (map_kept old now c.args.env.now c.lists.invariant.kept c.requires.env) (c.lists.invariant.writing c.args.program.now refl) (c.in_ok-last.ensures.written c.args.program.now refl)).top

pub end_list-requires-clause-heads : goal.end_list-requires-clause-heads
end_list-requires-clause-heads g c =
    let old = g.B.Bindings.meaning c.args.store.now in
    let now = g.B.Bindings.meaning c.lists.store in
    let on = writing_on c.lists.invariant.kept c.in_ok-last.ensures.kept (map_kept old now c.args.env.now c.lists.invariant.kept c.requires.env) (c.lists.invariant.writing c.args.program.now refl) (c.in_ok-last.ensures.written c.args.program.now refl) in
    elements_hold on

pub returns-in_err-value-clause-kept : goal.returns-in_err-value-clause-kept
returns-in_err-value-clause-kept g c =
    let old = g.B.Bindings.meaning c.args.store.now in
    let new = g.B.Bindings.meaning c.write_heads.new.store in
    kept_on old new (g.B.Bindings.meaning c.end_list.new.store) (kept_on old (g.B.Bindings.meaning c.lists.store) new c.lists.invariant.kept c.in_ok-last.ensures.kept) c.in_err-value.ensures.kept

pub returns-in_err-value-clause-saved : goal.returns-in_err-value-clause-saved
returns-in_err-value-clause-saved g c = λ ms h. c.in_err-value.ensures.saved ms (c.in_ok-last.ensures.saved ms (c.lists.invariant.saved ms h))

pub returns-in_err-value-clause-written : goal.returns-in_err-value-clause-written
returns-in_err-value-clause-written g c = λ program e.
    let old = g.B.Bindings.meaning c.args.store.now in
    let now = g.B.Bindings.meaning c.lists.store in
    let new = g.B.Bindings.meaning c.write_heads.new.store in
    let on = writing_on c.lists.invariant.kept c.in_ok-last.ensures.kept (map_kept old now c.args.env.now c.lists.invariant.kept c.requires.env) (c.lists.invariant.writing program e) (c.in_ok-last.ensures.written program e) in
    handed_on c.from_residual-in_err-value.result c.in_err-value.field-0.0 _ (Overflows (cells program (c.args.term.now ∷ [])) old) c.from_residual-in_err-value.ensures.1
    (writing_cut (kept_on old now new c.lists.invariant.kept c.in_ok-last.ensures.kept) on c.in_err-value.field-0.0 (c.in_err-value.ensures.written program e))

pub returns-in-None-clause-kept : goal.returns-in-None-clause-kept
returns-in-None-clause-kept g c =
    let old = g.B.Bindings.meaning c.args.store.now in
    let new = g.B.Bindings.meaning c.write_heads.new.store in
    kept_on old new (g.B.Bindings.meaning c.end_list.new.store) (kept_on old (g.B.Bindings.meaning c.lists.store) new c.lists.invariant.kept c.in_ok-last.ensures.kept) c.in_ok-value.ensures.kept

pub returns-in-None-clause-saved : goal.returns-in-None-clause-saved
returns-in-None-clause-saved g c = λ ms h. c.in_ok-value.ensures.saved ms (c.in_ok-last.ensures.saved ms (c.lists.invariant.saved ms h))

pub returns-in-None-clause-written : goal.returns-in-None-clause-written
returns-in-None-clause-written g c = λ program e.
    let old = g.B.Bindings.meaning c.args.store.now in
    let now = g.B.Bindings.meaning c.lists.store in
    let new = g.B.Bindings.meaning c.write_heads.new.store in
    let env = map (told old) c.args.env.now in
    let kept = kept_on old now new c.lists.invariant.kept c.in_ok-last.ensures.kept in
    let none : c.lists.around.items ≡ [] = search rules in
    let on = writing_on c.lists.invariant.kept c.in_ok-last.ensures.kept (map_kept old now c.args.env.now c.lists.invariant.kept c.requires.env) (c.lists.invariant.writing program e) (c.in_ok-last.ensures.written program e) in
    writing_ends kept (map_kept old new c.args.env.now kept c.requires.env)
    (subst (λ (os : List Open). Writing program env c.args.term.now c.in_ok-last.last.now (reverse os) c.lists.list.height old new c.args.stack.now.items c.write_heads.new.to.items) none on)
    (c.in_ok-value.ensures.written program e)

pub returns-in-None-clause-stack : goal.returns-in-None-clause-stack
returns-in-None-clause-stack g c =
    let old = g.B.Bindings.meaning c.args.store.now in
    let now = g.B.Bindings.meaning c.lists.store in
    let new = g.B.Bindings.meaning c.write_heads.new.store in
    let env = map (told old) c.args.env.now in
    let none : c.lists.around.items ≡ [] = search rules in
    let on = writing_on c.lists.invariant.kept c.in_ok-last.ensures.kept (map_kept old now c.args.env.now c.lists.invariant.kept c.requires.env) (c.lists.invariant.writing c.args.program.now refl) (c.in_ok-last.ensures.written c.args.program.now refl) in
    stack_back (subst (λ (os : List Open). Writing c.args.program.now env c.args.term.now c.in_ok-last.last.now (reverse os) c.lists.list.height old new c.args.stack.now.items c.write_heads.new.to.items) none on) c.in_ok-value.ensures.taken

pub lists-preserved : goal.lists-preserved
lists-preserved g c =
    let old = g.B.Bindings.meaning c.args.store.now in
    let now = g.B.Bindings.meaning c.lists.store in
    let new = g.B.Bindings.meaning c.write_heads.new.store in
    let end = g.B.Bindings.meaning c.end_list.new.store in
    let env = map (told old) c.args.env.now in
    let kept = kept_on old now new c.lists.invariant.kept c.in_ok-last.ensures.kept in
    let items : c.lists.around.items ≡ c.pop.new.self.items ++ c.in-Some.outer ∷ [] = search rules in
    let pushed : c.push-in-Some.new.self.items ≡ c.end_list.new.stack.items ++ c.in_ok-value.value ∷ [] = search rules in
    record {
      kept = kept_on old new end kept c.in_ok-value.ensures.kept;
      saved = λ ms h. c.in_ok-value.ensures.saved ms (c.in_ok-last.ensures.saved ms (c.lists.invariant.saved ms h));
      writing = λ program e.
          let on = writing_on c.lists.invariant.kept c.in_ok-last.ensures.kept (map_kept old now c.args.env.now c.lists.invariant.kept c.requires.env) (c.lists.invariant.writing program e) (c.in_ok-last.ensures.written program e) in
          writing_next kept c.in_ok-value.ensures.kept (map_kept old new c.args.env.now kept c.requires.env)
          (subst (λ (ps : List Open). Writing program env c.args.term.now c.in_ok-last.last.now ps c.lists.list.height old new c.args.stack.now.items c.write_heads.new.to.items) (reverse_push c.pop.new.self.items c.lists.around.items c.in-Some.outer items) on)
          (c.in_ok-value.ensures.written program e) c.in_ok-value.ensures.taken pushed;
    }
