-- Which requests look at the bytes of master keys.
use Rattle.std.specs.Prelude.{ℕ, Bool, true, false, List, codes}
use Rattle.key_transport.specs.declared.changing.Target.{Target}
use Rattle.key_transport.specs.declared.changing.Target.TheVariants.{Current, New}
use Rattle.master_registers.specs.Masters.{NewRegister}
use Rattle.verb_script.specs.Grammar.{Request, value_of}
use Rattle.verb_script.specs.declared.rows.RequestName.{RequestName}
use Rattle.verb_script.specs.declared.rows.RequestName.TheVariants.{Csnbenc, CsnbencFirst, CsnbencMiddle, CsnbencLast, Csnbdec, CsnbdecFirst, CsnbdecMiddle, CsnbdecLast, Csnbmgn, CsnbmgnFirst, CsnbmgnMiddle, CsnbmgnLast, Csnbmvr, CsnbmvrFirst, CsnbmvrMiddle, CsnbmvrLast, Csnbkyt, Csnbktc, CsnbmkpSet, ReencipherAhead}
use Rattle.cca_machine.specs.Choices.{target_named}
use Rattle.cca_machine.specs.State.{State}

-- the state with another new master key register
abbrev pub with_new : State → NewRegister → State
with_new s new = record s { registers = record s.registers { coming = new } }

abbrev pub is_new : Target → Bool
is_new Current = false
is_new New = true

abbrev pub asks_by_name : RequestName → List ℕ → Bool
asks_by_name Csnbktc rule = is_new (target_named rule)
asks_by_name CsnbmkpSet rule = true
asks_by_name ReencipherAhead rule = true
asks_by_name _ rule = false

-- SET and AHEAD, and CSNBKTC to the new master key
abbrev pub asks_new_key : Request → Bool
asks_new_key request = asks_by_name request.name (value_of request (codes "rule"))

-- the requests that encipher and decipher texts, make and verify their codes, also where a text comes in segments, and
-- test keys
abbrev pub uses_text_key : RequestName → Bool
uses_text_key Csnbenc = true
uses_text_key CsnbencFirst = true
uses_text_key CsnbencMiddle = true
uses_text_key CsnbencLast = true
uses_text_key Csnbdec = true
uses_text_key CsnbdecFirst = true
uses_text_key CsnbdecMiddle = true
uses_text_key CsnbdecLast = true
uses_text_key Csnbmgn = true
uses_text_key CsnbmgnFirst = true
uses_text_key CsnbmgnMiddle = true
uses_text_key CsnbmgnLast = true
uses_text_key Csnbmvr = true
uses_text_key CsnbmvrFirst = true
uses_text_key CsnbmvrMiddle = true
uses_text_key CsnbmvrLast = true
uses_text_key Csnbkyt = true
uses_text_key _ = false
