use Rattle.std.proofs.Common.{map, take, vec_items, sym, ap, ◌∙◌}
use Rattle.std.proofs.lemmas.List.{length-map, take-map}
use Rattle.messages.specs.Messages.{letter}
use Rattle.berths.specs.Disks.{sent}
use Rattle.berths.proofs.Tellings.{told_sent}
use Rattle.berths.proofs.course.Course.cut_short.Goals as goal

pub returns : goal.returns
returns c =
    let ms = map letter (vec_items c.args.messages) in
    let n = c.sends.ensures ∙ ap (sent c.args.self.fate c.args.self.syncs) (c.len.ensures ∙ c.args.messages.ok.0 ∙ sym (length-map (vec_items c.args.messages) letter)) in
    ap (map letter) c.truncate.ensures.items ∙ sym (take-map letter c.sends.result (vec_items c.args.messages)) ∙ ap (λ k. take k ms) n ∙ sym (told_sent c.args.self.fate c.args.self.syncs ms)
