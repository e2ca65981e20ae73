-- What a stop on the way through a request may leave.
use Rattle.std.proofs.Common.{◌≡◌, ℕ, ◌≤◌, List, Option, None, Some, refl, ◌∙◌, inl, inr, ⊎_elim}
use Rattle.std.specs.Prelude.{◌⊎◌}
use Rattle.key_tokens.specs.Denotes.{Denoted}
use Rattle.record_bodies.specs.Further.{further}
use Rattle.record_bodies.specs.declared.actions.StoreAction.{StoreAction}
use Rattle.record_bodies.specs.declared.actions.StoreAction.TheVariants.{Renew, Ahead, Drop}
use Rattle.line_service.specs.Replies.{Field}
use Rattle.verb_script.specs.Grammar.{Request, Spells}
use Rattle.verb_script.specs.declared.rows.RequestName.{RequestName}
use Rattle.verb_script.specs.declared.rows.RequestName.TheVariants.{Csnbktp, Csnbcki, CsnbkgnOp, CsnbkgnPair, CsnbkpiFirst, CsnbkpiMiddle, Csnbkim, Csnbpex, Reencipher, ReencipherAhead, ReencipherDrop}
use Rattle.cca_machine.specs.Reruns.{row_with}
use Rattle.cca_machine.specs.State.{State}
use Rattle.cca_machine.specs.Verdict.{Refusal, verdict}
use Rattle.cca_machine.specs.Act.{effect, state_between, delivered_with, or_act, performed}
use Rattle.cca_machine.proofs.DrawLaws.{early_none, verdict_empty}
use Rattle.cca_machine.specs.Coprocessor.{IsRenewing}

-- a key that is delivered changes one cell
delivered_between : (s : State) (field : List ℕ) (to : Option (List ℕ)) (key : Denoted) (fields : List Field) (cell : ℕ)
    → state_between s (delivered_with s field to key fields) cell ≡ s
delivered_between s field None key fields cell = refl
delivered_between s field (Some label) key fields cell = refl

abbrev StaysOrRenews : State → List ℕ → RequestName → Request → ℕ → Type 0
StaysOrRenews s drawn name r cell =
    (state_between s (effect s drawn name r) cell ≡ s)
    ⊎ ((a : StoreAction) × (name ≡ row_with a)
    × (state_between s (effect s drawn name r) cell ≡ record s { labels = further a s.labels cell }))

by_name : (s : State) (drawn : List ℕ) (name : RequestName) (r : Request) (cell : ℕ) → StaysOrRenews s drawn name r cell
by_name s drawn Csnbktp r cell = inl refl
by_name s drawn Csnbcki r cell = inl (delivered_between s _ _ _ _ cell)
by_name s drawn CsnbkgnOp r cell = inl (delivered_between s _ _ _ _ cell)
by_name s drawn CsnbkgnPair r cell = inl (delivered_between s _ _ _ _ cell)
by_name s drawn CsnbkpiFirst r cell = inl (delivered_between s _ _ _ _ cell)
by_name s drawn CsnbkpiMiddle r cell = inl (delivered_between s _ _ _ _ cell)
by_name s drawn Csnbkim r cell = inl (delivered_between s _ _ _ _ cell)
by_name s drawn Csnbpex r cell = inl (delivered_between s _ _ _ _ cell)
by_name s drawn Reencipher r cell = inr (Renew, refl, refl)
by_name s drawn ReencipherAhead r cell = inr (Ahead, refl, refl)
by_name s drawn ReencipherDrop r cell = inr (Drop, refl, refl)
by_name s drawn _ r cell = inl refl

-- the state before it, or one on the way of a permitted REENCIPHER
abbrev MayLeave : State → List ℕ → State → Type 0
MayLeave s line t = (t ≡ s) ⊎ IsRenewing s line t

by_verdict : (s : State) (line : List ℕ) (r : Request) (drawn : List ℕ) (cell : ℕ) → cell ≤ 1024 → Spells r line
    → (v : Option Refusal) → verdict s drawn r ≡ v → MayLeave s line ((or_act v s drawn r).between cell)
by_verdict s line r drawn cell within found (Some refusal) is = inl refl
by_verdict s line r drawn cell within found None is = ⊎_elim
    (λ stays. inl stays)
    (λ renews. inr (record {
      request = r;
      spelled = found;
      action = renews.0;
      is = renews.1;
      permitted = verdict_empty s r ∙ early_none s drawn r is;
      cells = cell;
      within = within;
      state_is = renews.2;
    }))
    (by_name s drawn r.name r cell)

pub between_is : (s : State) (line : List ℕ) (r : Request) (drawn : List ℕ) (cell : ℕ) → cell ≤ 1024 → Spells r line
    → MayLeave s line ((performed s drawn r).between cell)
unfolding performed
between_is s line r drawn cell within found = by_verdict s line r drawn cell within found (verdict s drawn r) refl
