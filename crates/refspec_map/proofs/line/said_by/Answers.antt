-- The keyword determines the form of the line, and what follows it the ref or the spec.
use Rattle.std.proofs.Common.{None, Some, codes, inl, inr, refl}
use Rattle.std.proofs.lemmas.Bool.Decides.{Decides-eqb}
use Rattle.std.proofs.lemmas.Slice.Eq.{strip_prefix_is}
use Rattle.refspec_map.proofs.LineLemmas.{malformed_ref, malformed_tag, no_tag_id, no_tagged_id, ref_seen, tag_seen}
use Rattle.refspec_map.proofs.line.said_by.Goals as goal

pub returns-in_err-target : goal.returns-in_err-target
returns-in_err-target c =
    let here = strip_prefix_is Decides-eqb c.args.line.now (codes "ref ") (Some c.in-Some.words)
    c.in-Some.ensures.cases in
    rw c.from_residual.ensures (malformed_ref c.args.line.now c.in-Some.words.now here c.in_err-target.ensures)

pub returns-in-Some : goal.returns-in-Some
returns-in-Some c =
    let read = c.in_ok-target.ensures in (
      record { name = c.in_ok-target.name.now; target = read.0; object = None },
      inl (record {
        words = c.in-Some.words.now;
        here = strip_prefix_is Decides-eqb c.args.line.now (codes "ref ")
            (Some c.in-Some.words) c.in-Some.ensures.cases;
        target = read.1;
        object = refl;
      }),
      rw c.new.ensures (ref_seen c.args.blank c.in_ok-target.name.now read.0 _ read.2),
    )

pub returns-in_err-target-2 : goal.returns-in_err-target-2
returns-in_err-target-2 c =
    let here = strip_prefix_is Decides-eqb c.args.line.now (codes "tag ") (Some c.in-Some-strip_prefix.words)
    c.in-Some-strip_prefix.ensures.cases in
    let words = c.in-Some-strip_prefix.words.now in
    rw c.from_residual-in_err-target-2.ensures
    (malformed_tag c.args.line.now words here (no_tag_id c.args.line.now words here c.in_err-target-2.ensures))

pub returns-in_err-object : goal.returns-in_err-object
returns-in_err-object c =
    let here = strip_prefix_is Decides-eqb c.args.line.now (codes "tag ") (Some c.in-Some-strip_prefix.words)
    c.in-Some-strip_prefix.ensures.cases in
    let words = c.in-Some-strip_prefix.words.now in
    rw c.from_residual-in_err-object.ensures
    (malformed_tag c.args.line.now words here
    (no_tagged_id c.args.line.now words _ c.in_ok-target-2.rest.now here c.in_ok-target-2.ensures.1
    c.in_err-object.ensures))

pub returns-in-Some-strip_prefix : goal.returns-in-Some-strip_prefix
returns-in-Some-strip_prefix c =
    let read = c.in_ok-target-2.ensures in
    let tagged = c.in_ok-object.ensures in (
      record { name = c.in_ok-object.name.now; target = read.0; object = Some tagged.0 },
      inr (record {
        words = c.in-Some-strip_prefix.words.now;
        rest = c.in_ok-target-2.rest.now;
        id = tagged.0;
        here =
            strip_prefix_is Decides-eqb c.args.line.now (codes "tag ") (Some c.in-Some-strip_prefix.words)
            c.in-Some-strip_prefix.ensures.cases;
        target = read.1;
        tagged = tagged.1;
        object = refl;
      }),
      rw c.new-in-Some-strip_prefix.ensures
          (tag_seen c.args.blank c.in_ok-object.name.now read.0 _ tagged.0 _ read.2 tagged.2),
    )
