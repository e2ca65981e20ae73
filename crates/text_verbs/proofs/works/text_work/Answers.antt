use Rattle.std.proofs.Common.{◌≡◌, Bool, [], true, false, refl, sym, ap, true≢false}
use Rattle.std.specs.Prelude.{IsTrue}
use Rattle.verb_script.specs.Parsed.{seen}
use Rattle.verb_script.specs.declared.request.Request.{Request as Parsed}
use Rattle.verb_script.specs.declared.request.Request.TheVariants as parsed
use Rattle.cca_machine.specs.Operands.{is_over_text}
use Rattle.text_verbs.proofs.works.text_work.Goals as goal

-- no other request is over a text
refused : (c : goal.In_default) (r : Parsed) → c.args.request.now ≡ r → IsTrue (is_over_text (seen r).name) → ⊥
refused c (parsed.Csnbenc role key iv pad text) is over = c.in_default.not-Csnbenc role key iv pad text is
refused c (parsed.CsnbencFirst role key segment iv text) is over = c.in_default.not-CsnbencFirst role key segment iv text is
refused c (parsed.CsnbencMiddle role key segment chain text) is over = c.in_default.not-CsnbencMiddle role key segment chain text is
refused c (parsed.CsnbencLast role key segment chain pad text) is over = c.in_default.not-CsnbencLast role key segment chain pad text is
refused c (parsed.Csnbdec role key iv pad text) is over = c.in_default.not-Csnbdec role key iv pad text is
refused c (parsed.CsnbdecFirst role key segment iv text) is over = c.in_default.not-CsnbdecFirst role key segment iv text is
refused c (parsed.CsnbdecMiddle role key segment chain text) is over = c.in_default.not-CsnbdecMiddle role key segment chain text is
refused c (parsed.CsnbdecLast role key segment chain pad text) is over = c.in_default.not-CsnbdecLast role key segment chain pad text is
refused c (parsed.Csnbmgn role key rule length text) is over = c.in_default.not-Csnbmgn role key rule length text is
refused c (parsed.CsnbmgnFirst role key rule segment text) is over = c.in_default.not-CsnbmgnFirst role key rule segment text is
refused c (parsed.CsnbmgnMiddle role key rule segment chain text) is over = c.in_default.not-CsnbmgnMiddle role key rule segment chain text is
refused c (parsed.CsnbmgnLast role key rule segment length chain text) is over = c.in_default.not-CsnbmgnLast role key rule segment length chain text is
refused c (parsed.Csnbmvr role key rule mac text) is over = c.in_default.not-Csnbmvr role key rule mac text is
refused c (parsed.CsnbmvrFirst role key rule segment text) is over = c.in_default.not-CsnbmvrFirst role key rule segment text is
refused c (parsed.CsnbmvrMiddle role key rule segment chain text) is over = c.in_default.not-CsnbmvrMiddle role key rule segment chain text is
refused c (parsed.CsnbmvrLast role key rule segment mac chain text) is over = c.in_default.not-CsnbmvrLast role key rule segment mac chain text is
refused c _ is over = absurd (true≢false (sym over))

is_false : (b : Bool) → (IsTrue b → ⊥) → b ≡ false
is_false true not = absurd (not refl)
is_false false not = refl

pub returns-in_default : goal.returns-in_default
returns-in_default c = record {
  work = tt;
  none = λ is. is_false (is_over_text (seen c.args.request.now).name) (refused c c.args.request.now refl);
}

pub returns-in-Csnbenc : goal.returns-in-Csnbenc
returns-in-Csnbenc c = record {
  work =
      record {
        verifies = false;
        role = c.in-Csnbenc.role;
        key = c.in-Csnbenc.key.now;
        segment = [];
        is = ap seen c.in-Csnbenc.is;
        cipher = tt;
      };
  none = λ is. absurd (true≢false is);
}

pub returns-in-CsnbencFirst : goal.returns-in-CsnbencFirst
returns-in-CsnbencFirst c = record {
  work =
      record {
        verifies = false;
        role = c.in-CsnbencFirst.role;
        key = c.in-CsnbencFirst.key.now;
        segment = c.in-CsnbencFirst.segment.now;
        is = ap seen c.in-CsnbencFirst.is;
        cipher = tt;
      };
  none = λ is. absurd (true≢false is);
}

pub returns-in-CsnbencMiddle : goal.returns-in-CsnbencMiddle
returns-in-CsnbencMiddle c = record {
  work =
      record {
        verifies = false;
        role = c.in-CsnbencMiddle.role;
        key = c.in-CsnbencMiddle.key.now;
        segment = c.in-CsnbencMiddle.segment.now;
        is = ap seen c.in-CsnbencMiddle.is;
        cipher = tt;
      };
  none = λ is. absurd (true≢false is);
}

pub returns-in-CsnbencLast : goal.returns-in-CsnbencLast
returns-in-CsnbencLast c = record {
  work =
      record {
        verifies = false;
        role = c.in-CsnbencLast.role;
        key = c.in-CsnbencLast.key.now;
        segment = c.in-CsnbencLast.segment.now;
        is = ap seen c.in-CsnbencLast.is;
        cipher = tt;
      };
  none = λ is. absurd (true≢false is);
}

pub returns-in-Csnbdec : goal.returns-in-Csnbdec
returns-in-Csnbdec c = record {
  work =
      record {
        verifies = false;
        role = c.in-Csnbdec.role;
        key = c.in-Csnbdec.key.now;
        segment = [];
        is = ap seen c.in-Csnbdec.is;
        cipher = tt;
      };
  none = λ is. absurd (true≢false is);
}

pub returns-in-CsnbdecFirst : goal.returns-in-CsnbdecFirst
returns-in-CsnbdecFirst c = record {
  work =
      record {
        verifies = false;
        role = c.in-CsnbdecFirst.role;
        key = c.in-CsnbdecFirst.key.now;
        segment = c.in-CsnbdecFirst.segment.now;
        is = ap seen c.in-CsnbdecFirst.is;
        cipher = tt;
      };
  none = λ is. absurd (true≢false is);
}

pub returns-in-CsnbdecMiddle : goal.returns-in-CsnbdecMiddle
returns-in-CsnbdecMiddle c = record {
  work =
      record {
        verifies = false;
        role = c.in-CsnbdecMiddle.role;
        key = c.in-CsnbdecMiddle.key.now;
        segment = c.in-CsnbdecMiddle.segment.now;
        is = ap seen c.in-CsnbdecMiddle.is;
        cipher = tt;
      };
  none = λ is. absurd (true≢false is);
}

pub returns-in-CsnbdecLast : goal.returns-in-CsnbdecLast
returns-in-CsnbdecLast c = record {
  work =
      record {
        verifies = false;
        role = c.in-CsnbdecLast.role;
        key = c.in-CsnbdecLast.key.now;
        segment = c.in-CsnbdecLast.segment.now;
        is = ap seen c.in-CsnbdecLast.is;
        cipher = tt;
      };
  none = λ is. absurd (true≢false is);
}

pub returns-in-Csnbmgn : goal.returns-in-Csnbmgn
returns-in-Csnbmgn c = record {
  work =
      record {
        verifies = false;
        role = c.in-Csnbmgn.role;
        key = c.in-Csnbmgn.key.now;
        segment = [];
        is = ap seen c.in-Csnbmgn.is;
        cipher = tt;
      };
  none = λ is. absurd (true≢false is);
}

pub returns-in-CsnbmgnFirst : goal.returns-in-CsnbmgnFirst
returns-in-CsnbmgnFirst c = record {
  work =
      record {
        verifies = false;
        role = c.in-CsnbmgnFirst.role;
        key = c.in-CsnbmgnFirst.key.now;
        segment = c.in-CsnbmgnFirst.segment.now;
        is = ap seen c.in-CsnbmgnFirst.is;
        cipher = tt;
      };
  none = λ is. absurd (true≢false is);
}

pub returns-in-CsnbmgnMiddle : goal.returns-in-CsnbmgnMiddle
returns-in-CsnbmgnMiddle c = record {
  work =
      record {
        verifies = false;
        role = c.in-CsnbmgnMiddle.role;
        key = c.in-CsnbmgnMiddle.key.now;
        segment = c.in-CsnbmgnMiddle.segment.now;
        is = ap seen c.in-CsnbmgnMiddle.is;
        cipher = tt;
      };
  none = λ is. absurd (true≢false is);
}

pub returns-in-CsnbmgnLast : goal.returns-in-CsnbmgnLast
returns-in-CsnbmgnLast c = record {
  work =
      record {
        verifies = false;
        role = c.in-CsnbmgnLast.role;
        key = c.in-CsnbmgnLast.key.now;
        segment = c.in-CsnbmgnLast.segment.now;
        is = ap seen c.in-CsnbmgnLast.is;
        cipher = tt;
      };
  none = λ is. absurd (true≢false is);
}

pub returns-in-Csnbmvr : goal.returns-in-Csnbmvr
returns-in-Csnbmvr c = record {
  work =
      record {
        verifies = true;
        role = c.in-Csnbmvr.role;
        key = c.in-Csnbmvr.key.now;
        segment = [];
        is = ap seen c.in-Csnbmvr.is;
        cipher = tt;
      };
  none = λ is. absurd (true≢false is);
}

pub returns-in-CsnbmvrFirst : goal.returns-in-CsnbmvrFirst
returns-in-CsnbmvrFirst c = record {
  work =
      record {
        verifies = true;
        role = c.in-CsnbmvrFirst.role;
        key = c.in-CsnbmvrFirst.key.now;
        segment = c.in-CsnbmvrFirst.segment.now;
        is = ap seen c.in-CsnbmvrFirst.is;
        cipher = tt;
      };
  none = λ is. absurd (true≢false is);
}

pub returns-in-CsnbmvrMiddle : goal.returns-in-CsnbmvrMiddle
returns-in-CsnbmvrMiddle c = record {
  work =
      record {
        verifies = true;
        role = c.in-CsnbmvrMiddle.role;
        key = c.in-CsnbmvrMiddle.key.now;
        segment = c.in-CsnbmvrMiddle.segment.now;
        is = ap seen c.in-CsnbmvrMiddle.is;
        cipher = tt;
      };
  none = λ is. absurd (true≢false is);
}

pub returns-in-CsnbmvrLast : goal.returns-in-CsnbmvrLast
returns-in-CsnbmvrLast c = record {
  work =
      record {
        verifies = true;
        role = c.in-CsnbmvrLast.role;
        key = c.in-CsnbmvrLast.key.now;
        segment = c.in-CsnbmvrLast.segment.now;
        is = ap seen c.in-CsnbmvrLast.is;
        cipher = tt;
      };
  none = λ is. absurd (true≢false is);
}
