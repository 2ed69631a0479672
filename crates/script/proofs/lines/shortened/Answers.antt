use Rattle.std.proofs.Common.{rules, arith, ◌≡◌, ◌≤◌, OnOk, ◌++◌, ap, ◌∙◌, string_len}
use Rattle.std.proofs.Math.ListN.{take}
use Rattle.std.proofs.Math.Utf8.{encodes}
use Rattle.std.specs.Str.{chars}
use Rattle.std.specs.String.{string_bytes}
use Rattle.std.proofs.lemmas.Iterator.{YieldsList-from_chars, YieldsList-from_take}
use Rattle.std.proofs.lemmas.Iterator.Adapters.{items_from_extend}
use Rattle.script.proofs.Lengths.{length-first_chars_le}
use Rattle.script.proofs.lines.shortened.Goals as goal
use Rattle.script.proofs.lines.shortened.Goals.{then-len-text+in_ok-push_str, else-len-text}

-- at most 60 characters, and two dots
pub returns : goal.returns
returns c =
    let text = c.args.text.now in
    let extended : OnOk c.extend.result (string_bytes c.extend.new.self ≡ string_bytes c.roomy-short.result ++ encodes (take 60 (chars text))) = items_from_extend {P = λ cs. string_bytes c.extend.new.self ≡ string_bytes c.roomy-short.result ++ encodes cs} c.extend.result c.extend.ensures.ran (YieldsList-from_take 60 (YieldsList-from_chars text c.utf8.text (cc)) (cc)) in
    let short : string_bytes c.extend.new.self ≡ encodes (take 60 (chars text)) = rw c.in_ok-extend.was at extended ∙ ap (λ bs. bs ++ encodes (take 60 (chars text))) c.roomy-short.ensures in
    let most = length-first_chars_le 60 (chars text) _ short in
    let len : string_len c.extend.new.self ≤ 240 = omega (arith, c.extend.new.self.bytes.ok.0) in
    elim c.if-len-text.branch [ then-len-text+in_ok-push_str w ↦ search rules | else-len-text w ↦ search rules ]
