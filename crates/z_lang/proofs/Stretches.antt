-- Stretches of a run, one behind another.
use Rattle.std.proofs.Common.{◌≡◌, ℕ, suc, ◌+◌, ap, ◌∙◌, arith}
use Rattle.z_model.specs.declared.end.Halt.{Halt}
use Rattle.z_model.specs.Run.{ZGiven, ZState, ZRun, On, Ended, halt_ending, go_on, zstep, zrun}
use Rattle.z_lang.specs.Leads.{Leads, Ends}

on_step : (w : ZGiven) (k : ℕ) (z z' : ZState) → zstep w z ≡ On z' → zrun w (suc k) z ≡ zrun w k z'
unfolding zrun
on_step w k z z' e = ap (go_on (zrun w k)) e

last_step : (w : ZGiven) (k : ℕ) (z z' : ZState) (halt : Halt) → zstep w z ≡ Ended halt z' → zrun w (suc k) z ≡ record { end = halt_ending halt; state = z' }
unfolding zrun
last_step w k z z' halt e = ap (go_on (zrun w k)) e

pub leads_none : (w : ZGiven) (z : ZState) → Leads w 0 z z
leads_none w z = record { by = λ k. let e : 0 + k ≡ k = omega arith in ap (λ (n : ℕ). zrun w n z) e }

pub leads_step : (w : ZGiven) (n : ℕ) (z z1 z2 : ZState) → zstep w z ≡ On z1 → Leads w n z1 z2 → Leads w (suc n) z z2
leads_step w n z z1 z2 e l = record { by = λ k. let q : suc n + k ≡ suc (n + k) = omega arith in ap (λ (i : ℕ). zrun w i z) q ∙ on_step w (n + k) z z1 e ∙ l.by k }

pub leads_then : (w : ZGiven) (n m : ℕ) (z z1 z2 : ZState) → Leads w n z z1 → Leads w m z1 z2 → Leads w (n + m) z z2
leads_then w n m z z1 z2 l r = record { by = λ k. let q : n + m + k ≡ n + (m + k) = omega arith in ap (λ (i : ℕ). zrun w i z) q ∙ l.by (m + k) ∙ r.by k }

pub ends_step : (w : ZGiven) (n : ℕ) (z z1 : ZState) (r : ZRun) → zstep w z ≡ On z1 → Ends w n z1 r → Ends w (suc n) z r
ends_step w n z z1 r e l = record { by = λ k. let q : suc n + k ≡ suc (n + k) = omega arith in ap (λ (i : ℕ). zrun w i z) q ∙ on_step w (n + k) z z1 e ∙ l.by k }

pub ends_then : (w : ZGiven) (n m : ℕ) (z z1 : ZState) (r : ZRun) → Leads w n z z1 → Ends w m z1 r → Ends w (n + m) z r
ends_then w n m z z1 r l e = record { by = λ k. let q : n + m + k ≡ n + (m + k) = omega arith in ap (λ (i : ℕ). zrun w i z) q ∙ l.by (m + k) ∙ e.by k }

pub ends_last : (w : ZGiven) (z z1 : ZState) (halt : Halt) → zstep w z ≡ Ended halt z1 → Ends w 1 z (record { end = halt_ending halt; state = z1 })
ends_last w z z1 halt e = record { by = λ k. let q : 1 + k ≡ suc k = omega arith in ap (λ (i : ℕ). zrun w i z) q ∙ last_step w k z z1 halt e }
