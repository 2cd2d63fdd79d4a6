-- Values that are put into registers of memory.
use Rattle.std.proofs.Common.{◌≡◌, ℕ, ◌+◌, ◌<◌, ◌≤◌, List, refl, ap, subst, arith, length, vec_capacity}
use Rattle.dg_base.specs.declared.run.Limits.{Limits}
use Rattle.dg_meaning.specs.Values.{Value}
use Rattle.dg_meaning.specs.Moves.{new_vars}
use Rattle.dg_unify.specs.Store.{State, Kept}
use Rattle.dg_arena.specs.Held.{meaning_of}
use Rattle.dg_mid.specs.declared.code.Code.{Code}
use Rattle.dg_mid.specs.State.{Mid}
use Rattle.dg_mid.specs.Step.{more}
use Rattle.dg_machine.specs.declared.memory.Memory.{Memory}
use Rattle.dg_machine.specs.Built.{most_args}
use Rattle.dg_machine.specs.Refs.{Keeps, Puts}
use Rattle.dg_machine.specs.inside.Writing.{Overflows}
use Rattle.dg_machine.specs.declared.now.Row.{Row}
use Rattle.dg_machine.specs.Layout.{Holds, HasRoom, Lacks, HasPut, HasHeads, MadeRule, MadeHead, made_state}
use Rattle.dg_machine.proofs.Kept.{row_kept}
use Rattle.dg_machine.proofs.Opens.{took, took_room, roomy, roomy_on, registers_held, registers_roomy}

module _ (code : Code) (l : Limits) (m : Mid) (r new : Memory) (h : Holds code l r m) (keeps : Keeps r.arena new.arena) (path : vec_capacity new.path ≡ vec_capacity r.path) (room : vec_capacity new.kept ≡ vec_capacity r.kept) where
  over_here : (n : ℕ) → Overflows n (meaning_of r.arena) → l.heap < m.state.heap + n
  over_here n over =
      let limit = h.0.limits.heap in
      let heap = ap (λ (s : State). s.heap) h.0.state_is in
      omega (arith, over, limit, heap)

  module _ (args : vec_capacity new.args ≡ vec_capacity r.args) (few : length new.args.items ≤ most_args) where
    pub was_put : new.kept.items ≡ r.kept.items → (n : ℕ) (vs : List Value) → Puts n vs (meaning_of r.arena) (meaning_of new.arena) new.args.items → HasPut code l n vs m (record r { arena = new.arena; args = new.args; path = new.path; kept = new.kept })
    was_put same n vs x = record {
      held = registers_held code l (more n m) (record r { arena = new.arena }) (record r { arena = new.arena; args = new.args; path = new.path; kept = new.kept }) (took code l m n r new.arena h keeps.kept keeps.saved x.charged) args few refl path same room;
      args = x.refs_are;
    }

    pub not_put : (n : ℕ) → Overflows n (meaning_of r.arena) → Lacks n l m.state.heap (record r { arena = new.arena; args = new.args; path = new.path; kept = new.kept })
    not_put n over = record {
      over = over_here n over;
      roomy = registers_roomy l (record r { arena = new.arena }) (record r { arena = new.arena; args = new.args; path = new.path; kept = new.kept }) (roomy_on l r new.arena (roomy code l m r h) keeps.kept) args refl path room;
    }

  module _ (heads : vec_capacity new.heads ≡ vec_capacity r.heads) where
    pub was_headed : new.kept.items ≡ r.kept.items → (n : ℕ) (vs : List Value) → Puts n vs (meaning_of r.arena) (meaning_of new.arena) new.heads.items → HasHeads code l n vs m (record r { arena = new.arena; heads = new.heads; path = new.path; kept = new.kept })
    was_headed same n vs x = record {
      held = registers_held code l (more n m) (record r { arena = new.arena }) (record r { arena = new.arena; heads = new.heads; path = new.path; kept = new.kept }) (took code l m n r new.arena h keeps.kept keeps.saved x.charged) refl h.0.room.refs.args_few heads path same room;
      heads = x.refs_are;
    }

    pub not_headed : (n : ℕ) → Overflows n (meaning_of r.arena) → Lacks n l m.state.heap (record r { arena = new.arena; heads = new.heads; path = new.path; kept = new.kept })
    not_headed n over = record {
      over = over_here n over;
      roomy = registers_roomy l (record r { arena = new.arena }) (record r { arena = new.arena; heads = new.heads; path = new.path; kept = new.kept }) (roomy_on l r new.arena (roomy code l m r h) keeps.kept) refl heads path room;
    }

-- room is left behind the values of a head
pub headed_room : (r new : Memory) → HasRoom r → Keeps r.arena new.arena → vec_capacity new.path ≡ vec_capacity r.path → new.kept.items ≡ r.kept.items → vec_capacity new.kept ≡ vec_capacity r.kept → vec_capacity new.heads ≡ vec_capacity r.heads → (n : ℕ) (vs : List Value) → Puts n vs (meaning_of r.arena) (meaning_of new.arena) new.heads.items → HasRoom (record r { arena = new.arena; heads = new.heads; path = new.path; kept = new.kept })
headed_room r new h keeps path same kept_room heads n vs x =
    let room = took_room n r new.arena h keeps.kept x.charged in
    record {
      frames_fit = room.frames_fit;
      inners_fit = room.inners_fit;
      choices_fit = room.choices_fit;
      stops_fit = room.stops_fit;
      frames_few = room.frames_few;
      inners_few = room.inners_few;
      choices_few = room.choices_few;
      stops_few = room.stops_few;
      refs = record { kept_fit = omega (arith, kept_room, room.refs.kept_fit); kept_few = omega (arith, ap length same, room.refs.kept_few); args_fit = room.refs.args_fit; args_few = room.refs.args_few; heads_fit = omega (arith, heads, room.refs.heads_fit); path_fit = omega (arith, path, room.refs.path_fit) };
    }

-- a rule's variables and then the values of its head
module _ (code : Code) (l : Limits) (n cells : ℕ) (m : Mid) (mid new : Memory) (row : Row) (made : MadeRule code l n m mid row) where
  pub made_head : (vs : List Value) → Kept (meaning_of mid.arena) (meaning_of new.arena) → HasHeads code l cells vs (record m { state = made_state n m.state }) new → MadeHead code l n cells m vs new row
  made_head vs kept x =
      let heap : m.state.heap + (6 + n) + cells ≡ m.state.heap + (6 + n + cells) = omega arith in
      record {
        held = subst (λ k. Holds code l new (record m { state = record m.state { vars = m.state.vars + n; heap = k } })) heap x.held;
        row_is = row_kept (meaning_of mid.arena) (meaning_of new.arena) row (new_vars n m.state.vars) kept made.row_is;
        heads = x.heads;
      }

  pub no_head : Lacks cells l (m.state.heap + (6 + n)) new → Lacks (6 + n + cells) l m.state.heap new
  no_head x = let over = x.over in record { over = omega (arith, over); roomy = x.roomy }
