-- Of each length that is flagged there is one prefix at most that the name begins with.
use Rattle.gix_refspec_match.proofs.Common.{length-append, refl, false, sym, arith, inr, ap, length, get_or_past}
use Rattle.gix_refspec_match.proofs.Common.{list_of}
use Rattle.gix_refspec_match.proofs.lemmas.index.IndexLemmas.{adds_all, adds_listed, adds_more, taken_begins}
use Rattle.gix_refspec_match.proofs.index.prefixes.add_place.Goals as goal

pub returns-then-name-len : goal.returns-then-name-len
returns-then-name-len c = adds_all c.loop-len.len c.args.name.now _ _ _
    (λ prefix w was begins long. omega (arith, ap length begins.here, length-append prefix begins.after))
    c.loop-len.invariant

pub loop-len-init : goal.loop-len-init
loop-len-init c = λ prefix v is. (v, is, inr ((λ below. omega (arith, below.0)), refl))

pub loop-len-preserved-then-not-is_asked : goal.loop-len-preserved-then-not-is_asked
loop-len-preserved-then-not-is_asked c = adds_more c.loop-len.len c.args.name.now c.args.place _ _
    (λ prefix v w is was begins long. absurd (cc (c.if-not-is_asked.true, rw long at (c.requires prefix w was))))
    c.loop-len.invariant

pub loop-len-preserved : goal.loop-len-preserved
loop-len-preserved c =
    elim c.match-get_mut.branch [
      | goal.in-Some+in_ok-push w ↦
          let updates = (c.get_mut.follows.holds w.push.new.self).3 (rw (← w.in-Some.ensures.value) refl) in
          rw w.places-is (adds_listed c.loop-len.len c.args.name.now c.args.place w.in-Some.list.now w.push.new.self _
          (list_of c.loop-len.places) _ (omega arith)
          (sym w.in-Some.ensures.value) w.in_ok-push.ensures.items
          (λ q. updates.0 (record { name = record c.args.name { now = q } })) c.loop-len.invariant)
      | goal.in_default w ↦ rw (w.places-is, c.get_mut.follows.holds-at-none)
          (adds_more c.loop-len.len c.args.name.now c.args.place _ _ (λ prefix v u is was begins long.
          absurd (cc (
            w.in_default.ensures.value,
            ap (list_of c.loop-len.places)
                (taken_begins prefix c.args.name.now c.loop-len.len begins long),
          ))) c.loop-len.invariant)
    ]

pub returns : goal.returns
returns c = adds_all c.loop-len.len c.args.name.now c.args.place _ _
    (λ prefix w was begins long. absurd
    (cc (get_or_past c.args.lengths.now (length prefix) false (omega (arith, long)), c.requires prefix w was)))
    c.loop-len.invariant
