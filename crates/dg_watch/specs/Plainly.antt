-- What a sink is told that sees no calls: the bytes alone.
use Rattle.std.specs.Prelude.{List, [], ◌∷◌, ◌++◌, ◌≡◌}
use Rattle.std.proofs.Common.{refl, sym, ap, subst}
use Rattle.dg_base.specs.Written.{SinkView, Wrote, BrokeOff}
use Rattle.dg_base.proofs.WrittenLemmas.{wrote_nothing, wrote_on, broke_later}
use Rattle.dg_watch.specs.Told.{Told, Took, Saw, taken}
use Rattle.dg_watch.specs.Watching.{Watching}

-- What it tells, but for its faults.
abbrev pub calm : SinkView → SinkView
calm v = record v { faults = 0 }

-- It took the bytes of these.
abbrev pub TookBytes : SinkView → SinkView → List Told → Type 0
TookBytes old new ts = Wrote (calm old) (calm new) (taken ts)

-- It may break off within the bytes of these.
pub record MayBreak (old : SinkView) (ts : List Told) : Type 0 where
  pub view : SinkView
  pub broke : BrokeOff (calm old) view (taken ts)

pub taken_on : (ts us : List Told) → taken (ts ++ us) ≡ taken ts ++ taken us
taken_on [] us = refl
taken_on (Took b ∷ ts) us = ap (λ l. b ∷ l) (taken_on ts us)
taken_on (Saw e ∷ ts) us = taken_on ts us

-- What a sink with this view is told.
abbrev pub plainly : {K : Type 0} → (K → SinkView) → Watching K
plainly view = record {
  told = λ a b ts. TookBytes (view a) (view b) ts;
  refuses = λ a ts. MayBreak (view a) ts;
  faults = λ a. (view a).faults;
  nothing = λ a. wrote_nothing (calm (view a));
  on = λ a b c xs ys h k. subst (Wrote (calm (view a)) (calm (view c))) (sym (taken_on xs ys))
      (wrote_on (calm (view a)) (calm (view b)) (calm (view c)) (taken xs) (taken ys) h k);
  behind = λ a b xs ys h m. record {
    view = m.view;
    broke = subst (BrokeOff (calm (view a)) m.view) (sym (taken_on xs ys)) (broke_later (calm (view a)) (calm (view b)) m.view (taken xs) (taken ys) h m.broke);
  };
}
