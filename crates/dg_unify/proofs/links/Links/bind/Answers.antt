use Rattle.std.proofs.Common.{rules, ◌≡◌, [], ◌∷◌, ◌++◌}
use Rattle.std.proofs.lemmas.Grind.{common_steps}
use Rattle.dg_unify.specs.declared.slots.Link.{Link}
use Rattle.dg_unify.proofs.LinksLemmas.{linked_bind}
use Rattle.dg_unify.proofs.links.Links.bind.Goals as goal

pub invariant_of-self : goal.invariant_of-self
invariant_of-self c =
    let l : Link = record { var = c.args.var; to = c.args.to } in
    let is : c.push.new.self.items ≡ c.args.self.now.log.items ++ l ∷ [] = search (rules, common_steps) in
    record { linked = linked_bind c.args.self.now.vars c.args.self.now.to.items c.args.self.now.log.items c.push.new.self.items l is c.args.self.now.linked c.requires.within c.requires.unbound }
