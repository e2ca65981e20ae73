-- What a line writes of the module and the store.
use Rattle.std.proofs.Common.{◌≡◌, ℕ, true, false, List, Option, None, Some, inl, inr, refl, subst}
use Rattle.std.specs.Prelude.{⊤, IsSome, codes}
use Rattle.key_tokens.specs.Denotes.{Denoted}
use Rattle.line_service.specs.Replies.{Field}
use Rattle.verb_script.specs.Grammar.{Request, Spells, value_of}
use Rattle.verb_script.specs.Named.{label_named}
use Rattle.verb_script.specs.declared.rows.RequestName.{RequestName}
use Rattle.verb_script.specs.declared.rows.RequestName.TheVariants.{Csnbcki, CsnbkgnOp, CsnbkgnPair, Csnbkim, Csnbpex, CsnbkpiFirst, CsnbkpiMiddle, CsnbmkpPart, CsnbmkpClear, CsnbmkpSet, CsuaaciDefine, CsuaaciRemove}
use Rattle.verb_script.proofs.GrammarLaws.{spelled_once}
use Rattle.cca_machine.specs.Act.{Cells, NoCell, Effect, Show, Become, DefineRole, RemoveRole, Create, Write, Delete, ChangeLabels, Outcome, delivered_with, effect, effected, module_cells_after, or_act, performed, refused as as_refused, store_cells_after}
use Rattle.cca_machine.specs.Coprocessor.{MayWrite, ModuleMay, StoreMay}
use Rattle.cca_machine.specs.State.{State}
use Rattle.cca_machine.specs.Verdict.{Refusal, verdict}
use Rattle.cca_machine.specs.Written.{SameBut}
use Rattle.cca_laws.specs.WrittenLines.{WritesNothing, changes_module}

module _ (cells_of : Outcome → Cells) (none : (s : State) (x : Refusal) → cells_of (as_refused s x) ≡ NoCell) where
  -- where no request that the line spells writes to the disk
  still : (s : State) (line old new : List ℕ)
      → ((r : Request) (drawn : List ℕ) → Spells r line → cells_of (performed s drawn r) ≡ NoCell)
      → MayWrite cells_of s line old new → new ≡ old
  still s line old new spares (inl same) = same
  still s line old new spares (inr writes) =
      subst (λ (cells : Cells). SameBut cells old new) (spares writes.0 writes.1 writes.2) writes.3

  refused_still : (s : State) (drawn : List ℕ) (r : Request) → IsSome (verdict s drawn r) → cells_of (performed s drawn r) ≡ NoCell
  unfolding performed
  refused_still s drawn r some = by_verdict (verdict s drawn r) some
    where
      by_verdict : (v : Option Refusal) → IsSome v → cells_of (or_act v s drawn r) ≡ NoCell
      by_verdict None some = let wrong : false ≡ true = some in absurd (cc)
      by_verdict (Some x) some = none s x

  permitted_still : (s : State) (drawn : List ℕ) (r : Request) → cells_of (effected s r (effect s drawn r.name r)) ≡ NoCell
      → cells_of (performed s drawn r) ≡ NoCell
  unfolding performed
  permitted_still s drawn r spares = by_verdict (verdict s drawn r)
    where
      by_verdict : (v : Option Refusal) → cells_of (or_act v s drawn r) ≡ NoCell
      by_verdict None = spares
      by_verdict (Some x) = none s x

  -- of a line that spells one request
  one_still : (s : State) (line old new : List ℕ) (r : Request) → Spells r line
      → ((drawn : List ℕ) → cells_of (performed s drawn r) ≡ NoCell) → MayWrite cells_of s line old new → new ≡ old
  one_still s line old new r spelled spares =
      still s line old new
      (λ x drawn is. subst (λ (q : Request). cells_of (performed s drawn q) ≡ NoCell) (spelled_once line r x spelled is) (spares drawn))

-- ---- each request

abbrev SparesModule : Effect → Type 0
SparesModule (Become m labels) = ⊥
SparesModule (DefineRole name points) = ⊥
SparesModule (RemoveRole name) = ⊥
SparesModule (Show fields) = ⊤
SparesModule (Create label) = ⊤
SparesModule (Write label key fields) = ⊤
SparesModule (Delete label) = ⊤
SparesModule (ChangeLabels a) = ⊤

no_module_cell : (s : State) (e : Effect) → SparesModule e → module_cells_after s e ≡ NoCell
no_module_cell s (Become m labels) spares = absurd spares
no_module_cell s (DefineRole name points) spares = absurd spares
no_module_cell s (RemoveRole name) spares = absurd spares
no_module_cell s (Show fields) spares = refl
no_module_cell s (Create label) spares = refl
no_module_cell s (Write label key fields) spares = refl
no_module_cell s (Delete label) spares = refl
no_module_cell s (ChangeLabels a) spares = refl

delivery_spares : (s : State) (field : List ℕ) (to : Option (List ℕ)) (key : Denoted) (fields : List Field) → SparesModule (delivered_with s field to key fields)
delivery_spares s field None key fields = tt
delivery_spares s field (Some label) key fields = tt

module_spared : (s : State) (drawn : List ℕ) (name : RequestName) (r : Request) → changes_module name ≡ false → SparesModule (effect s drawn name r)
module_spared s drawn Csnbcki r other = delivery_spares s _ (label_named (value_of r (codes "to"))) _ _
module_spared s drawn CsnbkgnOp r other = delivery_spares s _ (label_named (value_of r (codes "to"))) _ _
module_spared s drawn CsnbkgnPair r other = delivery_spares s _ (label_named (value_of r (codes "to"))) _ _
module_spared s drawn Csnbkim r other = delivery_spares s _ (label_named (value_of r (codes "to"))) _ _
module_spared s drawn Csnbpex r other = delivery_spares s _ (label_named (value_of r (codes "to"))) _ _
module_spared s drawn CsnbkpiFirst r other = delivery_spares s _ (label_named (value_of r (codes "to"))) _ _
module_spared s drawn CsnbkpiMiddle r other = delivery_spares s _ (label_named (value_of r (codes "to"))) _ _
module_spared s drawn CsnbmkpPart r other = cc other
module_spared s drawn CsnbmkpClear r other = cc other
module_spared s drawn CsnbmkpSet r other = cc other
module_spared s drawn CsuaaciDefine r other = cc other
module_spared s drawn CsuaaciRemove r other = cc other
module_spared s drawn _ r other = tt

store_spared : (s : State) (drawn : List ℕ) (name : RequestName) (r : Request) → changes_module name ≡ true → store_cells_after s (effect s drawn name r) ≡ NoCell
store_spared s drawn CsnbmkpPart r changes = refl
store_spared s drawn CsnbmkpClear r changes = refl
store_spared s drawn CsnbmkpSet r changes = refl
store_spared s drawn CsuaaciDefine r changes = refl
store_spared s drawn CsuaaciRemove r changes = refl
store_spared s drawn _ r changes = cc changes

-- ---- the law

pub unspelled : (s : State) (line : List ℕ) → ((r : Request) → Spells r line → ⊥) → WritesNothing s line
unspelled s line none = record {
  of_module = λ old new. still (λ o. o.module_cells) (λ s x. refl) s line old new (λ r drawn is. absurd (none r is));
  of_store = λ old new. still (λ o. o.store_cells) (λ s x. refl) s line old new (λ r drawn is. absurd (none r is));
}

pub refused : (s : State) (line : List ℕ) (r : Request) → Spells r line → ((drawn : List ℕ) → IsSome (verdict s drawn r)) → WritesNothing s line
refused s line r is some = record {
  of_module = λ old new. one_still (λ o. o.module_cells) (λ s x. refl) s line old new r is
      (λ drawn. refused_still (λ o. o.module_cells) (λ s x. refl) s drawn r (some drawn));
  of_store = λ old new. one_still (λ o. o.store_cells) (λ s x. refl) s line old new r is
      (λ drawn. refused_still (λ o. o.store_cells) (λ s x. refl) s drawn r (some drawn));
}

pub to_module : (s : State) (line old new : List ℕ) (r : Request) → Spells r line → changes_module r.name ≡ false → ModuleMay s line old new → new ≡ old
to_module s line old new r is other = one_still (λ o. o.module_cells) (λ s x. refl) s line old new r is
    (λ drawn. permitted_still (λ o. o.module_cells) (λ s x. refl) s drawn r (no_module_cell s (effect s drawn r.name r) (module_spared s drawn r.name r other)))

pub to_store : (s : State) (line old new : List ℕ) (r : Request) → Spells r line → changes_module r.name ≡ true → StoreMay s line old new → new ≡ old
to_store s line old new r is changes = one_still (λ o. o.store_cells) (λ s x. refl) s line old new r is
    (λ drawn. permitted_still (λ o. o.store_cells) (λ s x. refl) s drawn r (store_spared s drawn r.name r changes))
