use Rattle.gix_refspec_text.proofs.{Common.arith, lemmas.lists.EmptyLemmas.some_bytes}
use Rattle.gix_refspec_text.proofs.lemmas.texts.WrongLemmas.{found_inside, word_fits, word_of_fault}
use Rattle.gix_refspec_text.proofs.name.wrong_word.Goals as goal

pub end_of_word-end-requires : goal.end_of_word-end-requires
end_of_word-end-requires c = found_inside c.args.text.now c.args.fault c.args.index c.requires.found

pub overflow_sub-len : goal.overflow_sub-len
overflow_sub-len c =
    let inside = found_inside c.args.text.now c.args.fault c.args.index c.requires.found in
    let fits = word_fits c.args.fault _ c.args.index inside in
    omega (arith, fits, c.start_of_word-start.ensures, c.end_of_word-end.ensures)

pub returns : goal.returns
returns c =
    let x = c.args.text.now in
    let first = word_of_fault x c.args.fault c.args.index (some_bytes x c.requires.some) c.requires.found in
    rw (c.start_of_word-start.ensures, c.end_of_word-end.ensures) first
