-- What a calculation comes to.
use Rattle.std.proofs.Common.{◌≡◌, ℕ, ◌+◌, List, [], ◌∷◌, Option, sym, ap, ◌∙◌, subst}
use Rattle.std.specs.declared.vec.Vec.{Vec}
use Rattle.std.specs.declared.alloc.Global.{Global}
use Rattle.dg_base.specs.declared.program.ArithOp.{ArithOp}
use Rattle.dg_base.specs.declared.program.Goal.{out-Goal}
use Rattle.dg_base.specs.declared.program.Goal.TheVariants.{Arith, outs-Arith}
use Rattle.dg_base.specs.declared.program.Term.{Term}
use Rattle.dg_base.specs.declared.program.CoreProgram.{CoreProgram}
use Rattle.dg_base.specs.Goals.{terms_held}
use Rattle.dg_meaning.specs.Values.{value_of}
use Rattle.dg_meaning.specs.Substitutions.{walk}
use Rattle.dg_meaning.specs.Numbers.{of_numbers, calculated}
use Rattle.dg_meaning.specs.World.{worked}
use Rattle.dg_meaning.specs.Path.{Moves}
use Rattle.dg_meaning.specs.Moves.{looked_up, outcome, move_of, gives_number}
use Rattle.dg_unify.specs.Store.{Store, Saved, Kept, told}
use Rattle.dg_unify.specs.declared.bindings.Ref.{Ref}
use Rattle.dg_unify.specs.declared.list.ListBindings.{ListBindings}
use Rattle.dg_interp.specs.declared.engine.Engine.{Engine}
use Rattle.dg_choices.specs.declared.frames.Env.{Env}
use Rattle.dg_terms.specs.Terms.{ThreeMade}
use Rattle.dg_interp.specs.inside.Frames.{stretch, values_in}
use Rattle.dg_interp.specs.inside.Engine.{store_in, KeepsPlaces, steps_of, IsReady, TakesAt, Leads}
use Rattle.dg_interp.specs.inside.Giving.{GivesAt}
use Rattle.dg_interp.proofs.Giving.{with_store, written_acts}

pub arith_held : (op : ArithOp) (a b c : Term) → terms_held (out-Goal (Arith op a b c)) ≡ a ∷ b ∷ c ∷ []
arith_held op a b c = ap terms_held (outs-Arith op a b c)

pub three_among : (program : CoreProgram) (a b c : Term) (s t : Store) (rs : Ref × Ref × Ref) (refs part : List Ref) (env : Env) → part ≡ stretch refs env → ThreeMade program a b c (Rattle.std.proofs.Common.map (told s) part) s t rs → ThreeMade program a b c (values_in s refs env) s t rs
three_among program a b c s t rs refs part env e h = subst (λ l. ThreeMade program a b c (Rattle.std.proofs.Common.map (told s) l) s t rs) e h

pub arith_leads : (op : ArithOp) (a b c : Term) (old : Engine) (store : ListBindings) (stack : Vec Ref Global) (ra rb rc : Ref) (ready : IsReady old) (k : Kept (store_in old.store) (store_in store)) (saved : (ms : List Saved) → KeepsPlaces old.store ms → KeepsPlaces store ms) →
    ((program : CoreProgram) → old.program.now ≡ program → ThreeMade program a b c (values_in (store_in old.store) old.refs.items old.here.env) (store_in old.store) (store_in store) (ra, rb, rc)) →
    (n : Option ℕ) → n ≡ of_numbers (calculated op) (walk (store_in store).state.subst (told (store_in store) ra)) (walk (store_in store).state.subst (told (store_in store) rb)) →
    Leads (TakesAt (Arith op a b c) old) (GivesAt n rc (with_store old store stack ready k saved))
arith_leads op a b c old store stack ra rb rc ready k saved made n is =
    let s = store_in store in
    let env = values_in (store_in old.store) old.refs.items old.here.env in
    let steps = steps_of old in
    written_acts (Arith op a b c) (a ∷ b ∷ c ∷ []) (arith_held op a b c) old store stack ready k saved (λ program e. (made program e).state)
    (λ r w. gives_number n (told s rc) r w)
    (λ g r. looked_up r (value_of g.program env a) + looked_up r (value_of g.program env b))
    (λ g r v same_program bound.
    let m = made g.program same_program in
    let va = value_of g.program env a in
    let vb = value_of g.program env b in
    let vc = value_of g.program env c in
    let w = worked (looked_up r va + looked_up r vb) v in
    let same : of_numbers (calculated op) (walk r.bound va) (walk r.bound vb) ≡ n =
    ap (λ S. of_numbers (calculated op) (walk S va) (walk S vb)) bound
    ∙ ap (λ y. of_numbers (calculated op) (walk s.state.subst y) (walk s.state.subst vb)) (sym m.first_is)
    ∙ ap (λ y. of_numbers (calculated op) (walk s.state.subst (told s ra)) (walk s.state.subst y)) (sym m.second_is)
    ∙ sym is in
    ap (λ f. outcome g f env old.here.tag steps r v) (outs-Arith op a b c)
    ∙ ap (λ o. Moves (move_of steps r (gives_number o vc r w))) same
    ∙ ap (λ y. Moves (move_of steps r (gives_number n y r w))) (sym m.third_is))
