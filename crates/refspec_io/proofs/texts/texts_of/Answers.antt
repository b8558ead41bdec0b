-- The texts are the arguments, and then those of both inputs.
use Rattle.std.proofs.Common.{◌<◌, ◌≤◌, ◌≡◌, ℕ, List, [], Bor, Vec, Global, map, take, take_all, length, get_or, ap}
use Rattle.std.proofs.Common.{subst, ◌∙◌, arith}
use Rattle.std.specs.Vec.{vec_len}
use Rattle.std.proofs.lemmas.List.{length-map, length-take-le}
use Rattle.refspec_io.specs.declared.texts.Text.{Text}
use Rattle.refspec_io.specs.Input.{end_byte}
use Rattle.refspec_io.specs.Texts.{AddsRecords, AddsValues, Given, given_of, numbered, argument_at, spec_input}
use Rattle.refspec_io.specs.Texts.{spec_name, words_of}
use Rattle.refspec_io.proofs.TextLemmas.{AddsTexts-of, AddsTexts-settings, given-records, given-settings, given_next}
use Rattle.refspec_io.proofs.TextLemmas.{numbered-length}
use Rattle.refspec_io.proofs.texts.texts_of.Goals as goal

-- a vector's length is that of the list of its elements
counted : (texts : Vec Text Global) (n : ℕ) → n ≡ vec_len texts → n ≡ length texts.items
counted texts n is = omega (arith, is, texts.ok.0, texts.ok.1)

pub loop-word-preserved : goal.loop-word-preserved
loop-word-preserved c =
    let none : Bor (List ℕ) = record { ref_ptr = (0, 0); now = [] } in
    let op = c.args.call.now.operation in
    let i = c.loop-word.word-index in
    let words = c.deref-word-items.ensures.value in
    let below : i < length c.args.call.now.specs.items = omega (arith, ap length words) in
    let same = c.as_bytes.ensures.value ∙ ap (λ (ws : List (Bor (List ℕ))). (get_or ws i none).now) words in
    let seen = map (λ (w : Bor (List ℕ)). w.now) (take i c.args.call.now.specs.items) in
    let many : length c.loop-word.texts.items ≡ i = omega (
      arith,
      length-map c.loop-word.texts.items given_of,
      ap length c.loop-word.invariant,
      numbered-length (argument_at op) 1 seen,
      length-map (take i c.args.call.now.specs.items) (λ (w : Bor (List ℕ)). w.now),
      length-take-le i c.args.call.now.specs.items (omega (arith, below)),
    ) in
    given_next (argument_at op) (λ (w : Bor (List ℕ)). w.now) c.args.call.now.specs.items i _ none []
    c.loop-word.texts.items c.push.new.self.items _ below (omega (arith, many)) c.in_ok-push.ensures.items
    (ap (argument_at op _) same) c.loop-word.invariant

pub returns-in_ok-add_values-in-Settings : goal.returns-in_ok-add_values-in-Settings
returns-in_ok-add_values-in-Settings c =
    let call = c.args.call.now in
    let files = c.args.files.now in
    let op = call.operation in
    let long = subst (λ (ws : List (Bor (List ℕ))). length ws ≤ c.loop-word.word-index) c.deref-word-items.ensures.value
    c.loop-word-test.false in
    let words : map given_of c.loop-word.texts.items ≡ words_of call = c.loop-word.invariant
    ∙ ap (λ (l : List (Bor (List ℕ))). numbered (argument_at op) 1 (map (λ (w : Bor (List ℕ)). w.now) l))
    (take_all c.loop-word.word-index call.specs.items long) in
    λ of. (
      AddsTexts-settings call.ends op call.beside.now (spec_name call) files.specs.now
          (spec_input call.command files.configured.now c.args.input.now) c.args.settings.now (words_of call)
          (map given_of c.add_values.new.texts.items) c.in-Settings.is of
          (subst (λ (ts : List Given). AddsValues c.args.settings.now ts (map given_of c.add_values.new.texts.items))
          words c.in_ok-add_values-in-Settings.ensures),
      given-settings call.ends op call.beside.now files.specs.now (words_of call) c.loop-word.texts.items
          c.len-given.result c.in-Settings.is words (counted c.loop-word.texts c.len-given.result c.len-given.ensures),
    )

pub returns-in_ok-add_texts-in-Newline-2 : goal.returns-in_ok-add_texts-in-Newline-2
returns-in_ok-add_texts-in-Newline-2 c =
    let call = c.args.call.now in
    let files = c.args.files.now in
    let op = call.operation in
    let long = subst (λ (ws : List (Bor (List ℕ))). length ws ≤ c.loop-word.word-index) c.deref-word-items.ensures.value
    c.loop-word-test.false in
    let words : map given_of c.loop-word.texts.items ≡ words_of call = c.loop-word.invariant
    ∙ ap (λ (l : List (Bor (List ℕ))). numbered (argument_at op) 1 (map (λ (w : Bor (List ℕ)). w.now) l))
    (take_all c.loop-word.word-index call.specs.items long) in
    let first = subst (λ (ts : List Given). AddsRecords (end_byte call.ends) op call.beside.now files.specs.now ts
    (map given_of c.add_texts.new.texts.items)) words c.in_ok-add_texts-in-Newline.ensures in
    let named = subst (λ (name : List ℕ). AddsRecords (end_byte call.ends) op name c.spec_input-specs.result.now
    (map given_of c.add_texts.new.texts.items) (map given_of c.add_texts-in-Newline.new.texts.items))
    c.spec_name.ensures c.in_ok-add_texts-in-Newline-2.ensures in
    let second = subst (λ (input : List ℕ). AddsRecords (end_byte call.ends) op (spec_name call) input
    (map given_of c.add_texts.new.texts.items) (map given_of c.add_texts-in-Newline.new.texts.items))
    c.spec_input-specs.ensures named in
    λ of. (
      (
        (map given_of c.add_texts.new.texts.items),
        AddsTexts-of call.ends op call.beside.now files.specs.now
            (words_of call) (map given_of c.add_texts.new.texts.items) c.in-Newline.is first,
        AddsTexts-of call.ends op (spec_name call) (spec_input call.command files.configured.now c.args.input.now)
            (map given_of c.add_texts.new.texts.items) (map given_of c.add_texts-in-Newline.new.texts.items)
            c.in-Newline.is second,
      ),
      given-records call.ends op call.beside.now files.specs.now (words_of call) c.add_texts.new.texts.items
          c.len-given-in-Newline.result c.in-Newline.is first
          (counted c.add_texts.new.texts c.len-given-in-Newline.result c.len-given-in-Newline.ensures),
    )
