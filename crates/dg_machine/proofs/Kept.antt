-- What lies in memory still lies there where only more was added.
use Rattle.std.proofs.Common.{◌++◌, ◌≡◌, ◌≤◌, ℕ, zero, suc, List, [], ◌∷◌, Option, Some, None, sym, subst}
use Rattle.std.specs.List.{slice_get}
use Rattle.dg_meaning.specs.Values.{Value, Values, Closure, Node}
use Rattle.dg_base.specs.Begins.{Begins}
use Rattle.dg_meaning.proofs.OneRun.{begins_on, begins_same}
use Rattle.dg_unify.specs.Store.{Store, Saved, Kept, IsClosureAt}
use Rattle.dg_unify.proofs.Lists.{get_append}
use Rattle.dg_mid.specs.declared.code.Code.{Code}
use Rattle.dg_mid.specs.State.{Place, Stop, Frame as FrameOf, Choice as ChoiceOf, Call as CallOf, Way as WayOf, Goes as GoesOf, Takes as TakesOf, Calls as CallsOf, Tries as TriesOf}
use Rattle.dg_unify.specs.declared.bindings.Ref.{Ref}
use Rattle.dg_machine.specs.declared.now.Row.{Row}
use Rattle.dg_machine.specs.declared.now.Call.{Call}
use Rattle.dg_machine.specs.declared.now.Way.{Way}
use Rattle.dg_machine.specs.declared.now.Way.TheVariants.{Goes, Takes, Calls, Tries}
use Rattle.dg_machine.specs.declared.now.Frame.{Frame}
use Rattle.dg_machine.specs.declared.now.Inner.{Inner}
use Rattle.dg_machine.specs.declared.now.Choice.{Choice}
use Rattle.dg_machine.specs.Links.{named}
use Rattle.dg_machine.specs.Refs.{ValuesAt, Captures, RowAt, RefsAt, AreRefs}
use Rattle.dg_machine.specs.Layout.{CallAt, WayAt, KeptAt, InnersAt, FramesAt, ChoiceAt, ChoicesAt, AreAmong}
use Rattle.dg_machine.proofs.StopLemmas.{stop_kept, under_up}

-- what is named is still named so
pub named_kept : {A : Type 0} (xs ys : List A) (n : ℕ) (x : A) → Begins xs ys → named xs n ≡ Some x → named ys n ≡ Some x
named_kept xs ys zero x b e = absurd (cc)
named_kept xs ys (suc n) x b e = subst (λ l. slice_get l n ≡ Some x) (sym b.is) (get_append xs b.behind n x e)

value_kept : (s t : Store) (kept : Option Ref) (gathers : Option Value) → Kept s t → KeptAt s kept gathers → KeptAt t kept gathers
value_kept s t None None k h = h
value_kept s t (Some r) (Some v) k h = k.values r v h
value_kept s t None (Some v) k h = h
value_kept s t (Some r) None k h = h

pub inners_kept : (s t : Store) (us vs : List ℕ) (old new : List Inner) (l : ℕ) (ps : List Place) → Kept s t → Begins us vs → Begins old new → InnersAt s us old l ps → InnersAt t vs new l ps
inners_kept s t us vs old new l [] k d b h = h
inners_kept s t us vs old new l (p ∷ ps) k d b h = record {
  inner = h.inner;
  there = named_kept old new l h.inner b h.there;
  height = h.height;
  outer = stop_kept us vs h.inner.stop p.outer d h.outer;
  kept = value_kept s t h.inner.kept p.gathers k h.kept;
  older = h.older;
  around_is = inners_kept s t us vs old new h.inner.around ps k d b h.around_is;
}

pub values_kept : (s t : Store) (at : ℕ) (vs : List Value) → Kept s t → ValuesAt s at vs → ValuesAt t at vs
values_kept s t at [] k h = tt
values_kept s t at (v ∷ vs) k h = (k.values (record { 0 = at }) v h.0, values_kept s t (suc at) vs k h.1)

pub closure_kept : (s t : Store) (r : Ref) (place : ℕ) (parts : Values) → Kept s t → IsClosureAt s r place parts → IsClosureAt t r place parts
closure_kept s t r place parts k h = record { value = k.values r (Node (Closure place) parts) h.value; few = h.few }

captures_kept : (s t : Store) (o : Option Ref) (n : ℕ) (vs : List Value) → Kept s t → Captures s o n vs → Captures t o n vs
captures_kept s t None n vs k h = h
captures_kept s t (Some r) n vs k h = (h.0, h.1, record { value = k.values r (Node (Closure h.0) h.1) h.2.value; few = h.2.few }, h.3, h.4)

pub row_kept : (s t : Store) (row : Row) (vs : List Value) → Kept s t → RowAt s row vs → RowAt t row vs
row_kept s t row vs k h = record { captured = h.captured; own = h.own; is = h.is; closure = captures_kept s t row.closure row.captured h.captured k h.closure; values = values_kept s t row.first h.own k h.values; count = h.count }

pub refs_kept : (s t : Store) (rs : List Ref) (vs : List Value) → Kept s t → RefsAt s rs vs → RefsAt t rs vs
refs_kept s t [] [] k h = tt
refs_kept s t (r ∷ rs) (v ∷ vs) k h = (k.values r v h.0, refs_kept s t rs vs k h.1)
refs_kept s t [] (v ∷ vs) k h = h
refs_kept s t (r ∷ rs) [] k h = h

pub are_refs_kept : (s t : Store) (rs : List Ref) → Kept s t → AreRefs s rs → AreRefs t rs
are_refs_kept s t rs k h = (h.0, refs_kept s t rs h.0 k h.1)

-- Refs that are the same stand for the same in a later store
pub moved_to : (s t : Store) (rs qs : List Ref) (vs : List Value) → qs ≡ rs → Kept s t → RefsAt s rs vs → RefsAt t qs vs
moved_to s t rs qs vs e k h = subst (λ xs. RefsAt t xs vs) (sym e) (refs_kept s t rs vs k h)

pub refs_moved : (s t : Store) (rs qs : List Ref) → qs ≡ rs → Kept s t → AreRefs s rs → AreRefs t qs
refs_moved s t rs qs e k h = (h.0, moved_to s t rs qs h.0 e k h.1)

pub call_kept : (s t : Store) (rs : List Ref) (k : Call) (c : CallOf) → Kept s t → CallAt s rs k c → CallAt t rs k c
call_kept s t rs k c kept h = record { args = refs_kept s t rs c.args kept h.args; next = h.next; many = h.many; cut = h.cut }

pub way_kept : (code : Code) (s t : Store) (rs : List Ref) (way : Way) (on : WayOf) → Kept s t → WayAt code s rs way on → WayAt code t rs way on
way_kept code s t rs (Goes b) (GoesOf b') kept h = h
way_kept code s t rs (Takes b) (TakesOf b' v) kept h = (h.0, h.1, refs_kept s t rs (h.1 ∷ v ∷ []) kept h.2)
way_kept code s t rs (Calls k pred left) (CallsOf c rules) kept h = record { call = call_kept s t rs k c kept h.call; there = h.there; rules_are = h.rules_are }
way_kept code s t rs (Tries k from end) (TriesOf f objects) kept h = (record { place = h.0.place; args = refs_kept s t rs f.args kept h.0.args; many = h.0.many; next = h.0.next }, h.1)
way_kept code s t rs (Goes b) on kept h = absurd h
way_kept code s t rs (Takes b) on kept h = absurd h
way_kept code s t rs (Calls k pred left) on kept h = absurd h
way_kept code s t rs (Tries k from end) on kept h = absurd h

pub frames_kept : (s t : Store) (us vs : List ℕ) (is js : List Inner) (xs ys : List Frame) (e : ℕ) (fs : List FrameOf) → Kept s t → Begins us vs → Begins is js → Begins xs ys → FramesAt s us is xs e fs → FramesAt t vs js ys e fs
frames_kept s t us vs is js xs ys e [] k d a b h = h
frames_kept s t us vs is js xs ys e (f ∷ fs) k d a b h = record {
  frame = h.frame;
  there = named_kept xs ys e h.frame b h.there;
  next = h.next;
  many = h.many;
  cut = h.cut;
  vars = row_kept s t h.frame.vars f.vars k h.vars;
  inner_is = inners_kept s t us vs is js h.frame.inner f.inner k d a h.inner_is;
  older = h.older;
  behind_is = frames_kept s t us vs is js xs ys h.frame.behind fs k d a b h.behind_is;
}

-- a choice lies among more
pub choice_kept : (older : List Frame → List Inner → List Ref → List Choice → Type 0) (code : Code) (xs ys : List Frame) (is js : List Inner) (rs qs : List Ref) (ts us : List Choice) (m : Saved) (k : Choice) (c : ChoiceOf) → Begins xs ys → Begins is js → Begins rs qs → Begins ts us → ChoiceAt older code xs is rs ts m k c → ChoiceAt older code ys js qs us m k c
choice_kept older code xs ys is js rs qs ts us m k c a b d e h = record {
  args = h.args;
  way = h.way;
  mark = h.mark;
  state = h.state;
  height = h.height;
  heap = h.heap;
  frames_then = h.frames_then;
  inners_then = h.inners_then;
  frames_begin = begins_on h.frames_then xs ys h.frames_begin a;
  inners_begin = begins_on h.inners_then is js h.inners_begin b;
  frames_len = h.frames_len;
  inners_len = h.inners_len;
  stops_then = h.stops_then;
  stops_begin = begins_on h.stops_then ts us h.stops_begin e;
  stops_len = h.stops_len;
  refs_then = h.refs_then;
  refs_begin = begins_on (h.refs_then ++ h.args) rs qs h.refs_begin d;
  refs_len = h.refs_len;
  args_len = h.args_len;
  args_few = h.args_few;
  refs_few = h.refs_few;
  frames_are = h.frames_are;
  inner_are = h.inner_are;
  stop_is = h.stop_is;
  frames_few = h.frames_few;
  inners_few = h.inners_few;
  gathered = h.gathered;
  older_are = h.older_are;
}

pub choices_kept : (code : Code) (xs ys : List Frame) (is js : List Inner) (rs qs : List Ref) (ts us : List Choice) (ms : List Saved) (ks : List Choice) (cs : List ChoiceOf) → Begins xs ys → Begins is js → Begins rs qs → Begins ts us → ChoicesAt code xs is rs ts ms ks cs → ChoicesAt code ys js qs us ms ks cs
choices_kept code xs ys is js rs qs ts us [] [] [] a b d e h = h
choices_kept code xs ys is js rs qs ts us (m ∷ ms) (k ∷ ks) (c ∷ cs) a b d e h = (choice_kept _ code xs ys is js rs qs ts us m k c a b d e h.0, h.1)
choices_kept code xs ys is js rs qs ts us [] [] (c ∷ cs) a b d e h = h
choices_kept code xs ys is js rs qs ts us [] (k ∷ ks) cs a b d e h = h
choices_kept code xs ys is js rs qs ts us (m ∷ ms) [] cs a b d e h = h
choices_kept code xs ys is js rs qs ts us (m ∷ ms) (k ∷ ks) [] a b d e h = h

-- choices are among those that lie among more, and as high
pub among_kept : (code : Code) (xs ys : List Frame) (is js : List Inner) (rs qs : List Ref) (h h' : ℕ) (ms : List Saved) (ks : List Choice) (cs : List ChoiceOf) (ts : List Choice) (ss : List Stop) → Begins xs ys → Begins is js → Begins rs qs → h ≤ h' → AreAmong code xs is rs h ms ks cs ts ss → AreAmong code ys js qs h' ms ks cs ts ss
among_kept code xs ys is js rs qs h h' ms ks cs ts ss a b d le x = record {
  points = x.points;
  means = x.means;
  are = choices_kept code xs ys is js rs qs ts ts ms x.points x.means a b d (begins_same ts) x.are;
  under = under_up h h' x.points le x.under;
  choices_in = x.choices_in;
  stops_in = x.stops_in;
}
