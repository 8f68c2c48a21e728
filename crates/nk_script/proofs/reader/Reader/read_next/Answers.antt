-- A line that is taken stands, so it ends no channel before that has come as far as a plan.
use Rattle.std.proofs.Common.{rules, ◌≡◌, true, length}
use Rattle.nk_script.specs.Lines.{IsLineOf}
use Rattle.nk_script.specs.Order.{IsKeyword, allows}
use Rattle.nk_script.specs.Texts.{first_word}
use Rattle.nk_script.proofs.reader.Reader.read_next.Goals as goal

pub take-requires-clause-complete : goal.take-requires-clause-complete
take-requires-clause-complete c =
    let begins : IsKeyword (first_word c.args.text.now) c.in-Some.keyword = search rules in
    let allowed : allows c.args.self.now.place c.in-Some.keyword ≡ true = search rules in
    let form : IsLineOf c.in-Some.keyword (length c.args.self.now.plans) c.args.text.now c.in-Ok-Some.line = search rules in
    c.requires.complete c.in-Ok-Some.line (record {
      expected = (c.in-Some.keyword, begins, allowed);
      form = record { keyword = c.in-Some.keyword; begins = begins; form = form };
      within = search rules;
    })
