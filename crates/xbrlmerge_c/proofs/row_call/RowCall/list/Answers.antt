use Rattle.std.proofs.Common.{◌≤◌, arith}
use Rattle.xbrlmerge_c.specs.Answers.{NoRow}
use Rattle.xbrlmerge_c.specs.Calls.{IsSheetRefused, Lists}
use Rattle.xbrlmerge_c.specs.code.Reports.{texts_of}
use Rattle.xbrlmerge_c.proofs.Answered as answered
use Rattle.xbrlmerge_c.proofs.row_call.RowCall.list.Goals as goal

pub returns-in-None : goal.returns-in-None
returns-in-None c = grind (arith, c.has_valid_ends.ensures.0 c.if-not-has_valid_ends.false, c.listed.ensures.beyond c.in-None.is)

pub returns-in-Some : goal.returns-in-Some
returns-in-Some c =
    let sheet = c.args.sheet.now in
    let lists = Lists c.args.self c.args.bound sheet (texts_of c.args.reports.now) in
    let made = c.in-Some.made in
    let ok = c.in-Some.ensures.ok in
    let err = c.in-Some.ensures.err in
    let answers = c.answer.ensures in
    let low : c.answer.result ≤ 5 = answered.within made _ _ _ answers in
    record {
      within = omega (arith, low);
      not_loose = λ is. answered.never_loose (IsSheetRefused sheet) made _ _ _ err answers is;
      has_level = λ is. omega (arith, low, is);
      are_ends = λ low. c.has_valid_ends.ensures.0 c.if-not-has_valid_ends.false;
      listed = λ low. answered.hands lists made _ _ _ ok answers low;
      none_refused = λ is. answered.none_refused made _ _ _ answers is;
      some_refused = λ is. answered.some_refused made _ _ _ answers is;
      short = λ is. answered.asks_text (IsSheetRefused sheet) lists made _ _ _ ok err answers is;
      sheet_is_refused = λ is. answered.rejects NoRow (IsSheetRefused sheet) made _ _ _ err answers is;
      no_ends = λ is ends. absurd (omega (arith, low, is));
      is_too_much = λ is. absurd (omega (arith, low, is));
      same = λ high. answered.kept made _ _ _ answers high;
    }
