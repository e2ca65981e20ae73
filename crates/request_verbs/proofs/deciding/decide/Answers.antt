use Rattle.std.proofs.Common.{◌≡◌, false, refl, sym, ap, subst, inl, inr, ◌∙◌, true≢false}
use Rattle.std.specs.Prelude.{IsTrue}
use Rattle.key_cells.specs.Lease.{bench_of}
use Rattle.master_registers.specs.Loaded.{masters_in}
use Rattle.verb_script.specs.Grammar.{Request}
use Rattle.verb_script.specs.Parsed.{seen}
use Rattle.verb_script.specs.declared.request.Request.{Request as Parsed}
use Rattle.cca_machine.specs.Operands.{is_over_text, operands}
use Rattle.cca_machine.specs.Verdict.{needs_master}
use Rattle.cca_machine.specs.Granted.{AreKeyed}
use Rattle.request_verbs.specs.KeyWorks.{is_over_keys}
use Rattle.cca_machine.proofs.Settling.{handed_on, handed_on_drawing, handed_on_silent}
use Rattle.request_verbs.proofs.deciding.decide.Goals as goal

-- a request over a text is none of the others
is_other : {request other : Parsed} → request ≡ other → IsTrue (is_over_text (seen other).name) → is_over_text (seen request).name ≡ false → ⊥
is_other {request} {other} is over none =
    true≢false (sym (subst (λ (r : Parsed). IsTrue (is_over_text (seen r).name)) (sym is) over) ∙ none)

pub over_keys-requires-clause-keys : goal.over_keys-requires-clause-keys
over_keys-requires-clause-keys g c =
    elim c.in-Csnbkyt.is [
      | inl w ↦ subst (λ (r : Parsed). IsTrue (is_over_keys (seen r).name)) (sym w.2) refl
      | inr (inl w) ↦ subst (λ (r : Parsed). IsTrue (is_over_keys (seen r).name)) (sym w.3) refl
      | inr (inr (inl w)) ↦ subst (λ (r : Parsed). IsTrue (is_over_keys (seen r).name)) (sym w.5) refl
      | inr (inr (inr (inl w))) ↦ subst (λ (r : Parsed). IsTrue (is_over_keys (seen r).name)) (sym w.7) refl
      | inr (inr (inr (inr (inl w)))) ↦ subst (λ (r : Parsed). IsTrue (is_over_keys (seen r).name)) (sym w.7) refl
      | inr (inr (inr (inr (inr (inl w))))) ↦ subst (λ (r : Parsed). IsTrue (is_over_keys (seen r).name)) (sym w.4) refl
      | inr (inr (inr (inr (inr (inr (inl w)))))) ↦ subst (λ (r : Parsed). IsTrue (is_over_keys (seen r).name)) (sym w.3) refl
      | inr (inr (inr (inr (inr (inr (inr (inl w))))))) ↦ subst (λ (r : Parsed). IsTrue (is_over_keys (seen r).name)) (sym w.3) refl
      | inr (inr (inr (inr (inr (inr (inr (inr (inl w)))))))) ↦ subst (λ (r : Parsed). IsTrue (is_over_keys (seen r).name)) (sym w.3) refl
      | inr (inr (inr (inr (inr (inr (inr (inr (inr (inl w))))))))) ↦ subst (λ (r : Parsed). IsTrue (is_over_keys (seen r).name)) (sym w.5) refl
      | inr (inr (inr (inr (inr (inr (inr (inr (inr (inr (inl w)))))))))) ↦ subst (λ (r : Parsed). IsTrue (is_over_keys (seen r).name)) (sym w.5) refl
      | inr (inr (inr (inr (inr (inr (inr (inr (inr (inr (inr w)))))))))) ↦ subst (λ (r : Parsed). IsTrue (is_over_keys (seen r).name)) (sym w.4) refl
    ]

pub unreachable-requires : goal.unreachable-requires
unreachable-requires g c =
    elim c.in-Csnbenc.is [
      | inl w ↦ is_other w.5 refl c.requires.other
      | inr (inl w) ↦ is_other w.5 refl c.requires.other
      | inr (inr (inl w)) ↦ is_other w.5 refl c.requires.other
      | inr (inr (inr (inl w))) ↦ is_other w.6 refl c.requires.other
      | inr (inr (inr (inr (inl w)))) ↦ is_other w.5 refl c.requires.other
      | inr (inr (inr (inr (inr (inl w))))) ↦ is_other w.5 refl c.requires.other
      | inr (inr (inr (inr (inr (inr (inl w)))))) ↦ is_other w.5 refl c.requires.other
      | inr (inr (inr (inr (inr (inr (inr (inl w))))))) ↦ is_other w.6 refl c.requires.other
      | inr (inr (inr (inr (inr (inr (inr (inr (inl w)))))))) ↦ is_other w.5 refl c.requires.other
      | inr (inr (inr (inr (inr (inr (inr (inr (inr (inl w))))))))) ↦ is_other w.5 refl c.requires.other
      | inr (inr (inr (inr (inr (inr (inr (inr (inr (inr (inl w)))))))))) ↦ is_other w.6 refl c.requires.other
      | inr (inr (inr (inr (inr (inr (inr (inr (inr (inr (inr (inl w))))))))))) ↦ is_other w.7 refl c.requires.other
      | inr (inr (inr (inr (inr (inr (inr (inr (inr (inr (inr (inr (inl w)))))))))))) ↦ is_other w.5 refl c.requires.other
      | inr (inr (inr (inr (inr (inr (inr (inr (inr (inr (inr (inr (inr (inl w))))))))))))) ↦ is_other w.5 refl c.requires.other
      | inr (inr (inr (inr (inr (inr (inr (inr (inr (inr (inr (inr (inr (inr (inl w)))))))))))))) ↦ is_other w.6 refl c.requires.other
      | inr (inr (inr (inr (inr (inr (inr (inr (inr (inr (inr (inr (inr (inr (inr w)))))))))))))) ↦ is_other w.7 refl c.requires.other
    ]

pub returns-in-Csnbktp : goal.returns-in-Csnbktp
returns-in-Csnbktp g c = record {
  decision =
      handed_on (ap seen c.in-Csnbktp.is) (c.csnbktp.ensures.settles c.in-Csnbktp.role c.in-Csnbktp.token.now c.args.held.now c.args.records.now c.args.lease.now) c.requires.can.passed.shaped;
}

pub returns-in-Csnbrng : goal.returns-in-Csnbrng
returns-in-Csnbrng g c = record {
  decision =
      handed_on_drawing (ap seen c.in-Csnbrng.is) (c.csnbrng.ensures.settles c.in-Csnbrng.role c.args.granted.now c.args.held.now c.args.records.now c.args.lease.now) c.requires.can.passed.shaped;
}

pub returns-in-Csnbkrc : goal.returns-in-Csnbkrc
returns-in-Csnbkrc g c = record {
  decision =
      handed_on_silent (ap seen c.in-Csnbkrc.is) c.requires.can.empty (c.csnbkrc.ensures.settles c.in-Csnbkrc.role c.args.granted.now c.args.held.now c.args.records.now c.args.lease.now) c.requires.can.passed.shaped;
}

pub returns-in-Csnbkrw : goal.returns-in-Csnbkrw
returns-in-Csnbkrw g c = record {
  decision =
      handed_on (ap seen c.in-Csnbkrw.is) (c.csnbkrw.ensures.settles c.in-Csnbkrw.role c.in-Csnbkrw.label.now c.args.held.now c.args.records.now c.args.lease.now
      (subst (λ (r : Request). AreKeyed (masters_in c.args.held.now (bench_of c.args.lease.now)) (operands r)) (ap seen c.in-Csnbkrw.is) (c.requires.can.passed.keyed (masters_in c.args.held.now (bench_of c.args.lease.now)) c.requires.can.loaded)).1) c.requires.can.passed.shaped;
}

pub returns-in-Csnbkrr : goal.returns-in-Csnbkrr
returns-in-Csnbkrr g c = record {
  decision =
      handed_on (ap seen c.in-Csnbkrr.is) (c.csnbkrr.ensures.settles c.in-Csnbkrr.role c.in-Csnbkrr.label.now c.args.held.now c.args.records.now c.args.lease.now) c.requires.can.passed.shaped;
}

pub returns-in-Csnbkrd : goal.returns-in-Csnbkrd
returns-in-Csnbkrd g c = record {
  decision =
      handed_on_silent (ap seen c.in-Csnbkrd.is) c.requires.can.empty (c.csnbkrd.ensures.settles c.in-Csnbkrd.role c.in-Csnbkrd.label.now c.args.held.now c.args.records.now c.args.lease.now) c.requires.can.passed.shaped;
}

pub returns-in-Csnbkrl : goal.returns-in-Csnbkrl
returns-in-Csnbkrl g c = record {
  decision =
      handed_on (ap seen c.in-Csnbkrl.is) (c.csnbkrl.ensures.settles c.in-Csnbkrl.role c.args.granted.now c.args.held.now c.args.lease.now) c.requires.can.passed.shaped;
}

pub returns-in-CsnbmkpPart : goal.returns-in-CsnbmkpPart
returns-in-CsnbmkpPart g c = record {
  decision =
      handed_on_silent (ap seen c.in-CsnbmkpPart.is) c.requires.can.empty (c.combine.ensures.settles c.in-CsnbmkpPart.role c.args.granted.now c.args.held.now c.args.records.now) c.requires.can.passed.shaped;
}

pub returns-in-CsnbmkpClear : goal.returns-in-CsnbmkpClear
returns-in-CsnbmkpClear g c = record {
  decision =
      handed_on_silent (ap seen c.in-CsnbmkpClear.is) c.requires.can.empty (c.clear.ensures.settles c.in-CsnbmkpClear.role c.in-CsnbmkpClear.action.now c.args.granted.now c.args.held.now c.args.lease.now) c.requires.can.passed.shaped;
}

pub returns-in-CsnbmkpSet : goal.returns-in-CsnbmkpSet
returns-in-CsnbmkpSet g c = record {
  decision =
      handed_on_silent (ap seen c.in-CsnbmkpSet.is) c.requires.can.empty (c.set.ensures.settles c.in-CsnbmkpSet.role c.in-CsnbmkpSet.action.now c.args.granted.now) c.requires.can.passed.shaped;
}

pub returns-in-CsuaaciDefine : goal.returns-in-CsuaaciDefine
returns-in-CsuaaciDefine g c = record {
  decision =
      handed_on_silent (ap seen c.in-CsuaaciDefine.is) c.requires.can.empty (c.define.ensures.settles c.in-CsuaaciDefine.role c.in-CsuaaciDefine.action.now c.args.granted.now c.args.held.now c.args.records.now c.args.lease.now) c.requires.can.passed.shaped;
}

pub returns-in-CsuaaciRemove : goal.returns-in-CsuaaciRemove
returns-in-CsuaaciRemove g c = record {
  decision =
      handed_on_silent (ap seen c.in-CsuaaciRemove.is) c.requires.can.empty (c.remove.ensures.settles c.in-CsuaaciRemove.role c.in-CsuaaciRemove.action.now c.args.granted.now c.args.held.now c.args.records.now c.args.lease.now) c.requires.can.passed.shaped;
}

pub returns-in-Reencipher : goal.returns-in-Reencipher
returns-in-Reencipher g c = record {
  decision =
      handed_on_silent (ap seen c.in-Reencipher.is) c.requires.can.empty (c.renew.ensures.settles c.in-Reencipher.role c.args.granted.now c.args.held.now c.args.records.now c.args.lease.now
      (c.requires.can.passed.master (subst (λ (r : Request). IsTrue (needs_master r.name)) (sym (ap seen c.in-Reencipher.is)) refl)) c.requires.can.loaded) c.requires.can.passed.shaped;
}

pub returns-in-ReencipherAhead : goal.returns-in-ReencipherAhead
returns-in-ReencipherAhead g c = record {
  decision =
      handed_on_silent (ap seen c.in-ReencipherAhead.is) c.requires.can.empty (c.ahead.ensures.settles c.in-ReencipherAhead.role c.in-ReencipherAhead.action.now c.args.granted.now) c.requires.can.passed.shaped;
}

pub returns-in-ReencipherDrop : goal.returns-in-ReencipherDrop
returns-in-ReencipherDrop g c = record {
  decision =
      handed_on_silent (ap seen c.in-ReencipherDrop.is) c.requires.can.empty (c.drop.ensures.settles c.in-ReencipherDrop.role c.in-ReencipherDrop.action.now c.args.granted.now c.args.held.now c.args.records.now c.args.lease.now
      (c.requires.can.passed.master (subst (λ (r : Request). IsTrue (needs_master r.name)) (sym (ap seen c.in-ReencipherDrop.is)) refl)) c.requires.can.loaded) c.requires.can.passed.shaped;
}
