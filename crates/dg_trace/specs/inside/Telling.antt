-- What the lines of a trace are told, and where their sink fails.
use Rattle.std.specs.Prelude.{ℕ, ◌≡◌, List, [], ◌++◌, Bool, true, false}
use Rattle.std.proofs.Common.{refl, sym, ap, ◌∙◌, subst}
use Rattle.std.proofs.lemmas.List.{append-nil}
use Rattle.dg_base.specs.Written.{SinkView, Wrote, BrokeOff}
use Rattle.dg_base.proofs.WrittenLemmas.{wrote_nothing, wrote_on, broke_later}
use Rattle.dg_meaning.specs.Trace.{names_of}
use Rattle.dg_watch.specs.Told.{Told}
use Rattle.dg_watch.specs.Watching.{Watching}
use Rattle.dg_trace.specs.declared.lines.Lines.{Lines}
use Rattle.dg_trace.specs.inside.Spelled.{spelled, begun_after, spelled_on, begun_on}

-- Where lines stand: the names of predicates, whether the newest line is open, whether the sink has failed, how often something was refused behind
-- that, and what the sink tells.
pub record Place : Type 0 where
  pub names : List (List ℕ)
  pub begun : Bool
  pub broken : Bool
  pub faults : ℕ
  pub view : SinkView

-- Where these lines stand over a sink that tells this.
abbrev pub place : Lines → SinkView → Place
place l view = record { names = names_of l.program.now; begun = l.begun; broken = l.broken; faults = l.faults; view = view }

-- The sink took all that is written for these, and nothing was refused.
pub record WroteLines (a b : Place) (ts : List Told) : Type 0 where
  pub wrote : Wrote a.view b.view (spelled a.names a.begun ts)
  pub begun : b.begun ≡ begun_after a.begun ts
  pub steady : b.faults ≡ a.faults

-- Behind a failure nothing is told or written.
pub record IsOver (a b : Place) (ts : List Told) : Type 0 where
  pub nothing : ts ≡ []
  pub view : b.view ≡ a.view

-- These were told to lines whose sink had failed before or not, and behind them has failed or not: it took what is written for them, it broke off within
-- that, or all is over.
abbrev pub Goes : Bool → Bool → Place → Place → List Told → Type 0
Goes false false a b ts = WroteLines a b ts
Goes false true a b ts = BrokeOff a.view b.view (spelled a.names a.begun ts)
Goes true false a b ts = ⊥
Goes true true a b ts = IsOver a b ts

-- From one place to another these were told.
pub record ToldLines (a b : Place) (ts : List Told) : Type 0 where
  pub names : b.names ≡ a.names
  pub goes : Goes a.broken b.broken a b ts

-- ## In two stretches

pub goes_nothing : (p : Bool) (a : Place) → Goes p p a a []
goes_nothing false a = record { wrote = wrote_nothing a.view; begun = refl; steady = refl }
goes_nothing true a = record { nothing = refl; view = refl }

written_on : (a b : Place) (xs ys : List Told) → b.names ≡ a.names → b.begun ≡ begun_after a.begun xs →
    spelled a.names a.begun xs ++ spelled b.names b.begun ys ≡ spelled a.names a.begun (xs ++ ys)
written_on a b xs ys names begun =
    ap (λ l. spelled a.names a.begun xs ++ l) (ap (λ n. spelled n b.begun ys) names ∙ ap (λ o. spelled a.names o ys) begun)
    ∙ sym (spelled_on a.names a.begun xs ys)

pub goes_on : (p q r : Bool) (a b c : Place) (xs ys : List Told) → b.names ≡ a.names → Goes p q a b xs → Goes q r b c ys → Goes p r a c (xs ++ ys)
goes_on false false false a b c xs ys names h k = record {
  wrote = subst (Wrote a.view c.view) (written_on a b xs ys names h.begun)
      (wrote_on a.view b.view c.view (spelled a.names a.begun xs) (spelled b.names b.begun ys) h.wrote k.wrote);
  begun = k.begun ∙ ap (λ o. begun_after o ys) h.begun ∙ sym (begun_on a.begun xs ys);
  steady = k.steady ∙ h.steady;
}
goes_on false false true a b c xs ys names h k =
    subst (BrokeOff a.view c.view) (written_on a b xs ys names h.begun)
    (broke_later a.view b.view c.view (spelled a.names a.begun xs) (spelled b.names b.begun ys) h.wrote k)
goes_on false true false a b c xs ys names h k = absurd k
goes_on false true true a b c xs ys names h k =
    subst (λ v. BrokeOff a.view v (spelled a.names a.begun (xs ++ ys))) (sym k.view)
    (subst (λ l. BrokeOff a.view b.view (spelled a.names a.begun l)) (sym (ap (λ l. xs ++ l) k.nothing ∙ append-nil xs)) h)
goes_on true false r a b c xs ys names h k = absurd h
goes_on true true false a b c xs ys names h k = absurd k
goes_on true true true a b c xs ys names h k = record {
  nothing = ap (λ l. l ++ ys) h.nothing ∙ k.nothing;
  view = k.view ∙ h.view;
}

-- What lines are told. What they may refuse they don't tell: they refuse only behind a failure of their sink, which what they are told says.
abbrev pub lines : Watching Place
lines = record {
  told = ToldLines;
  refuses = λ a ts. Unit {0};
  faults = λ a. a.faults;
  nothing = λ a. record { names = refl; goes = goes_nothing a.broken a };
  on = λ a b c xs ys h k. record { names = k.names ∙ h.names; goes = goes_on a.broken b.broken c.broken a b c xs ys h.names h.goes k.goes };
  behind = λ a b xs ys h r. tt;
}

-- The same of lines over a sink that tells this.
abbrev pub over_sink : {K : Type 0} → (K → SinkView) → Watching (Lines × K)
over_sink view = record {
  told = λ a b ts. ToldLines (place a.0 (view a.1)) (place b.0 (view b.1)) ts;
  refuses = λ a ts. Unit {0};
  faults = λ a. a.0.faults;
  nothing = λ a. lines.nothing (place a.0 (view a.1));
  on = λ a b c xs ys. lines.on (place a.0 (view a.1)) (place b.0 (view b.1)) (place c.0 (view c.1)) xs ys;
  behind = λ a b xs ys h r. tt;
}
