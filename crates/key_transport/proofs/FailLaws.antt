-- What an exit of a draw doesn't say.
use Rattle.std.proofs.Common.{◌≡◌, Result, Ok, Err, true, false, sym, ap, subst, ◌∙◌}
use Rattle.std.specs.Prelude.{OnOk}
use Rattle.std.specs.Result.{IsErr, IsErrAnd}
use Rattle.key_transport.specs.declared.generating.GenerateFault.{GenerateFault}
use Rattle.key_transport.specs.declared.generating.GenerateFault.TheVariants.{Failed, Repeated}

-- a fault of the random source that is handed on
pub failed_on : (r : Result (Unit {0}) GenerateFault) → IsErr r × IsErrAnd r (λ fault. fault ≡ Failed) → r ≡ Err Failed
failed_on (Ok x) told = let wrong : false ≡ true = told.0 in absurd (cc)
failed_on (Err fault) told = ap (λ f. Err f) told.1

module _ (r : Result (Unit {0}) GenerateFault) (failed : r ≡ Err Failed) where
  pub not_drawn : (P : Type 0) → OnOk r P
  not_drawn P = subst (λ (o : Result (Unit {0}) GenerateFault). OnOk o P) (sym failed) tt

  pub not_repeated : {P : Type 0} → r ≡ Err Repeated → P
  not_repeated {P} is = let wrong : Err Failed ≡ Err Repeated = sym failed ∙ is in absurd (cc)

  pub not_quiet : {P : Type 0} → (r ≡ Err Failed → ⊥) → P
  not_quiet {P} quiet = absurd (quiet failed)

-- an answer is no fault, and one fault isn't the other
pub no_fault : {P : Type 0} (fault : GenerateFault) → ◌≡◌ {A = Result (Unit {0}) GenerateFault} (Ok tt) (Err fault) → P
no_fault {P} fault wrong = absurd (cc)

pub other_fault : {P : Type 0} → ◌≡◌ {A = Result (Unit {0}) GenerateFault} (Err Repeated) (Err Failed) → P
other_fault {P} wrong = absurd (cc)
