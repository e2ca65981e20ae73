-- The answers that a session may stop with.
use Rattle.std.specs.Prelude.{⊤, ◌≡◌, ◌⊎◌, Result, Ok, Err, IsOk}
use Rattle.line_service.specs.declared.serving.Served.{Served}
use Rattle.line_service.specs.declared.serving.Served.TheVariants.{Ended}
use Rattle.line_service.specs.declared.stops.Stop.{Stop}
use Rattle.line_service.specs.declared.stops.Stop.TheVariants.{ReadFault, WriteFault, ModuleFault, StoreFault, EntropyFault, Damaged, InputLimit}

-- a disk or the random source failed while a line was answered
abbrev pub IsLineStop : Stop → Type 0
IsLineStop EntropyFault = ⊤
IsLineStop ModuleFault = ⊤
IsLineStop StoreFault = ⊤
IsLineStop (Damaged device cell) = ⊥
IsLineStop ReadFault = ⊥
IsLineStop WriteFault = ⊥
IsLineStop InputLimit = ⊥

-- or a disk is damaged
abbrev pub IsDeskStop : Stop → Type 0
IsDeskStop EntropyFault = ⊤
IsDeskStop ModuleFault = ⊤
IsDeskStop StoreFault = ⊤
IsDeskStop (Damaged device cell) = ⊤
IsDeskStop ReadFault = ⊥
IsDeskStop WriteFault = ⊥
IsDeskStop InputLimit = ⊥

-- a disk failed while the disks were opened, or is damaged
abbrev pub IsOpeningStop : Stop → Type 0
IsOpeningStop EntropyFault = ⊥
IsOpeningStop ModuleFault = ⊤
IsOpeningStop StoreFault = ⊤
IsOpeningStop (Damaged device cell) = ⊤
IsOpeningStop ReadFault = ⊥
IsOpeningStop WriteFault = ⊥
IsOpeningStop InputLimit = ⊥

-- no line was answered: the input is at its end, the source failed, or the input is too long
abbrev pub IsUnanswered : Result Served Stop → Type 0
IsUnanswered result = (result ≡ Ok Ended) ⊎ ((result ≡ Err ReadFault) ⊎ (result ≡ Err InputLimit))

-- lines were served, and neither a disk nor the random source ended that
abbrev pub AnswersLines : Result (Unit {0}) Stop → Type 0
AnswersLines result =
    IsOk result ⊎ ((result ≡ Err ReadFault)
    ⊎ ((result ≡ Err InputLimit) ⊎ (result ≡ Err WriteFault)))

-- no device failed and no disk is damaged: the input came to its end or to its limit
abbrev pub IsFaultless : Result (Unit {0}) Stop → Type 0
IsFaultless (Ok done) = ⊤
IsFaultless (Err InputLimit) = ⊤
IsFaultless (Err ReadFault) = ⊥
IsFaultless (Err WriteFault) = ⊥
IsFaultless (Err EntropyFault) = ⊥
IsFaultless (Err ModuleFault) = ⊥
IsFaultless (Err StoreFault) = ⊥
IsFaultless (Err (Damaged device cell)) = ⊥
