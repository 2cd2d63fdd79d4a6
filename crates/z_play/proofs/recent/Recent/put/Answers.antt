use Rattle.std.proofs.Common.{◌≡◌, ◌<◌, ℕ, List, Some, length, get_or, slice_get, slice_set, sym, subst, arith}
use Rattle.std.proofs.Math.Logic.{⊎_elim}
use Rattle.std.proofs.lemmas.Bool.{cases_eq}
use Rattle.std.proofs.lemmas.List.{length-set, get_or-set_same, get_or-set_other}
use Rattle.std.proofs.lemmas.Option.{slice_get-get_or}
use Rattle.z_play.specs.inside.Recent.{Recalls}
use Rattle.z_play.specs.declared.recent.Slot.{Slot}
use Rattle.z_play.proofs.recent.Recent.put.Goals as goal

-- the other slots are as they were
recalls_put : (base : ℕ) (bytes : List ℕ) (slots : List Slot) (place : ℕ) (slot : Slot) → place < length slots →
    ((k : ℕ) (d : Slot) → k < length slots → Recalls base bytes k (get_or slots k d)) → Recalls base bytes place slot →
    (k : ℕ) (d : Slot) → k < length slots → Recalls base bytes k (get_or (slice_set slots place slot) k d)
recalls_put base bytes slots place slot lt each new k d within =
    ⊎_elim
    (λ is. subst (λ (i : ℕ). Recalls base bytes i (get_or (slice_set slots place slot) i d)) (sym is)
    (subst (Recalls base bytes place) (sym (get_or-set_same slots place slot d lt)) new))
    (λ other. subst (Recalls base bytes k) (sym (get_or-set_other slots place k slot d other)) (each k d within))
    (cases_eq k place)

pub returns-clause-recent : goal.returns-clause-recent
returns-clause-recent c base bytes recent new =
    let size : length (slice_set c.args.self.now.slots.items c.args.place c.args.slot) ≡ length c.args.self.now.slots.items = length-set c.args.self.now.slots.items c.args.place c.args.slot in
    record {
      size = omega (arith, size, recent.size);
      each = λ k d lt. recalls_put base bytes c.args.self.now.slots.items c.args.place c.args.slot c.requires recent.each new k d (omega (arith, size, lt));
    }

pub returns-clause-there : goal.returns-clause-there
returns-clause-there c =
    let size : length (slice_set c.args.self.now.slots.items c.args.place c.args.slot) ≡ length c.args.self.now.slots.items = length-set c.args.self.now.slots.items c.args.place c.args.slot in
    subst (λ (x : Slot). slice_get (slice_set c.args.self.now.slots.items c.args.place c.args.slot) c.args.place ≡ Some x)
    (get_or-set_same c.args.self.now.slots.items c.args.place c.args.slot c.args.slot c.requires)
    (slice_get-get_or (slice_set c.args.self.now.slots.items c.args.place c.args.slot) c.args.place c.args.slot (omega (arith, size, c.requires)))
