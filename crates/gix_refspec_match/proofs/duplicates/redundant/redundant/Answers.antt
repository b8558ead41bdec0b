-- A text is flagged where it begins with the last needed one before it.
use Rattle.std.proofs.lemmas.Bool.Decides.{Decides-eqb}
use Rattle.std.proofs.lemmas.Slice.Eq.{starts_is}
use Rattle.bstr.specs.Owned.{bstring_bytes}
use Rattle.bstr.specs.declared.bstring.BString.{BString}
use Rattle.gix_refspec_match.proofs.Common.{List, ℕ, ◌++◌, ◌≡◌, ◌<◌, ap, arith, drop, false≢true, get_or, get_or_read}
use Rattle.gix_refspec_match.proofs.Common.{length, length-map, map, sym, ◌∙◌, BeginsWith, Placed}
use Rattle.gix_refspec_match.proofs.lemmas.duplicates.RedundantLemmas.{all_begin, all_flagged, few_begin, few_flagged}
use Rattle.gix_refspec_match.proofs.lemmas.duplicates.RedundantLemmas.{passed_needed, passed_one, passed_redundant}
use Rattle.gix_refspec_match.proofs.duplicates.redundant.redundant.Goals as goal

pub returns-then-texts-lt2-clause-ok : goal.returns-then-texts-lt2-clause-ok
returns-then-texts-lt2-clause-ok c = few_flagged (map bstring_bytes c.args.texts.now) c.new-flags.result.items
    (omega (arith, length-map c.args.texts.now bstring_bytes, c.if-texts-lt2.true)) c.new-flags.ensures.items

pub returns-then-texts-lt2-clause-begin : goal.returns-then-texts-lt2-clause-begin
returns-then-texts-lt2-clause-begin c = few_begin (map bstring_bytes c.args.texts.now)
    (omega (arith, length-map c.args.texts.now bstring_bytes, c.if-texts-lt2.true))

pub loop-at-init : goal.loop-at-init
loop-at-init c = passed_one c.in_ok-placed.ensures.all c.in_ok-placed.ensures.order c.new-flags.result.items
    c.new-flags.ensures.items (omega (arith, c.if-texts-lt2.false))

pub loop-at-preserved : goal.loop-at-preserved
loop-at-preserved c =
    let ps = c.in_ok-placed.placed.items in
    let at = c.loop-at.at in
    let upper = c.loop-at.upper in
    let so_far = c.loop-at.invariant in
    let all = c.in_ok-placed.ensures.all in
    let order = c.in_ok-placed.ensures.order in
    let below : at < length ps = omega arith in
    let here = c.index-in-loop-at.result.now in
    let above = c.index.result.now in
    let here_is : (d : Placed BString) → here ≡ get_or ps at d =
    λ d. get_or_read ps at here below c.index-in-loop-at.ensures d in
    let above_is : (d : Placed BString) → above ≡ get_or ps upper d =
    λ d. get_or_read ps upper above (omega (arith, below, so_far.below)) c.index.ensures d in
    let told = starts_is Decides-eqb (bstring_bytes here.element.now) (bstring_bytes above.element.now)
    c.starts_with.result (rw (c.as_bytes-start.ensures, c.as_bytes.ensures) at c.starts_with.ensures.value) in
    elim c.if-starts_with.branch [
      | goal.then-starts_with+in_ok-raise w ↦ rw (w.flags-is, w.upper-is)
          (passed_redundant all order so_far below w.raise.new.flags.items here.index w.in_ok-raise.ensures.fits
          w.in_ok-raise.ensures.raised (λ d. (
            ap (λ (p : Placed BString). p.index) (sym (here_is d)),
            rw (← here_is d, ← above_is d) (record { after = _; here = told.0 w.if-starts_with.true }),
          )) here)
      | goal.else-starts_with w ↦ rw (w.flags-is, w.upper-is)
          (passed_needed all order so_far below (λ d begins.
          let same : BeginsWith (bstring_bytes above.element.now) (bstring_bytes here.element.now) =
          rw (here_is d, above_is d) begins in
          false≢true (sym w.if-starts_with.false ∙ told.1 same.after same.here)))
    ]

pub returns-clause-ok : goal.returns-clause-ok
returns-clause-ok c = all_flagged c.in_ok-placed.ensures.all c.in_ok-placed.ensures.order c.loop-at.invariant
    (omega arith)

pub returns-clause-begin : goal.returns-clause-begin
returns-clause-begin c = all_begin c.in_ok-placed.ensures.all c.in_ok-placed.ensures.order c.loop-at.invariant
    (omega arith)
