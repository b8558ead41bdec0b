-- Examples for this project's own rules on meanings, canonical texts and order: where a sign has a meaning, which text
-- gets
-- another one, and how instructions compare.
use Rattle.gix_refspec_text.proofs.Common.{List, ◌∷◌, map, Option, Reading, Meaning, ◌≡◌, true, false, [], None, Some}
use Rattle.gix_refspec_text.proofs.Common.{codes, refl, Less, Equal, Greater, Push, Fetch, Normal, Forced, Negative}
use Rattle.gix_refspec_text.proofs.Common.{fetched, pushed, push_all_matching, push_delete, push_matching, push_exclude}
use Rattle.gix_refspec_text.proofs.Common.{fetch_only, fetch_exclude, fetch_and_update, meaning_of, text_of, printed}
use Rattle.gix_refspec_text.proofs.Common.{all_tags, order, is_same, meant_for}

abbrev pub meanings : List (Reading × Option Meaning)
meanings =
    -- a sign has no meaning where no ref is updated: in a fetch without a destination, and in a deletion
    (fetched Forced (codes "main") None, Some (fetch_only (codes "main")))
    ∷ (pushed Forced None (Some (codes "x")), Some (push_delete (codes "x")))
    ∷ (fetched Forced (codes "a") (Some (codes "b")), Some (fetch_and_update (codes "a") (codes "b") true))
    ∷ (pushed Forced None None, Some (push_all_matching true)) ∷ (
      pushed Normal None None,
      Some (push_all_matching false),
    )
    -- a source alone is pushed to itself, but fetched without a destination
    ∷ (pushed Normal (Some (codes "main")) None, Some (push_matching (codes "main") (codes "main") false))
    ∷ (fetched Normal (codes "main") None, Some (fetch_only (codes "main")))
    -- a negative spec has a source alone
    ∷ (fetched Negative (codes "a") None, Some (fetch_exclude (codes "a"))) ∷ (
      pushed Negative (Some (codes "a")) None,
      Some (push_exclude (codes "a")),
    )
    ∷ (fetched Negative (codes "a") (Some (codes "b")), None) ∷ (pushed Negative None (Some (codes "b")), None)
    -- an instruction is forced if the reading is, and otherwise not
    ∷ (pushed Forced (Some (codes "a")) None, Some (push_matching (codes "a") (codes "a") true))
    ∷ (pushed Forced (Some (codes "a")) (Some (codes "b")), Some (push_matching (codes "a") (codes "b") true))
    ∷ (pushed Normal (Some (codes "a")) (Some (codes "b")), Some (push_matching (codes "a") (codes "b") false))
    ∷ (fetched Normal (codes "a") (Some (codes "b")), Some (fetch_and_update (codes "a") (codes "b") false))
    -- a fetch without a source has no meaning, nor has a negative spec without a source or with both sides
    ∷ (record { operation = Fetch; mode = Normal; source = None; destination = Some (codes "b") }, None)
    ∷ (record { operation = Fetch; mode = Forced; source = None; destination = None }, None)
    ∷ (record { operation = Fetch; mode = Negative; source = None; destination = None }, None)
    ∷ (pushed Negative None None, None) ∷ (pushed Negative (Some (codes "a")) (Some (codes "b")), None) ∷ []

pub each_meaning : map (λ p. meaning_of p.0) meanings ≡ map (λ p. p.1) meanings
each_meaning = refl

pub pluses :
    -- a lone source that begins with a plus is printed with another one, and no other text is
    (map text_of (fetch_only (codes "+foo") ∷ fetch_only (codes "foo+") ∷ fetch_exclude (codes "+x") ∷ push_delete
    (codes "+x") ∷ fetch_and_update (codes "+a") (codes "b") false
    ∷ push_matching (codes "+a") (codes "b") false ∷ push_exclude (codes "+x") ∷ fetch_only [] ∷ fetch_only (codes "^a")
    ∷ push_all_matching true ∷ [])
    ≡ codes "++foo" ∷ codes "foo+" ∷ codes "^+x" ∷ codes ":+x" ∷ codes "+a:b" ∷ codes "+a:b" ∷ codes "^+x" ∷ []
    ∷ codes "^a" ∷ codes "+:" ∷ [])
    -- without a meaning there is no text
    × (map printed (pushed Normal (Some (codes "main")) None ∷ fetched Forced (codes "main") None ∷ fetched Negative
    (codes "a") (Some (codes "b")) ∷ [])
    ≡ Some (codes "main:main") ∷ Some (codes "main") ∷ None ∷ [])
    -- the operation of each meaning
    × (map meant_for (push_exclude (codes "a") ∷ fetch_exclude (codes "a") ∷ push_delete (codes "a") ∷ fetch_only
    (codes "a") ∷ []) ≡ Push ∷ Fetch ∷ Push ∷ Fetch ∷ [])
pluses = (refl, refl, refl)

-- all tags are fetched without force
pub tags_printed : printed all_tags ≡ Some (codes "refs/tags/*:refs/tags/*")
tags_printed = refl

pub fields_rise :
    -- the variants are in the order of their declarations, pushes before fetches
    (order (push_all_matching true) (push_delete []) ≡ Less)
    × (order (push_delete (codes "z")) (push_matching (codes "a") (codes "a") false) ≡ Less)
    × (order (push_matching (codes "z") (codes "z") true) (push_exclude (codes "a")) ≡ Less)
    × (order (push_exclude (codes "z")) (fetch_only (codes "a")) ≡ Less)
    × (order (fetch_only (codes "z")) (fetch_exclude (codes "a")) ≡ Less)
    × (order (fetch_exclude (codes "z")) (fetch_and_update (codes "a") (codes "a") false) ≡ Less)
    -- then the source decides, then the destination, and last the sign; bytes are compared before lengths
    × (order (push_matching (codes "a") (codes "z") true) (push_matching (codes "b") (codes "a") false) ≡ Less)
    × (order (push_matching (codes "a") (codes "a") true) (push_matching (codes "a") (codes "b") false) ≡ Less)
    × (order (push_matching (codes "a") (codes "b") false) (push_matching (codes "a") (codes "b") true) ≡ Less)
    × (order (fetch_only (codes "aa")) (fetch_only (codes "b")) ≡ Less)
    × (order (fetch_only (codes "aa")) (fetch_only (codes "a")) ≡ Greater)
    × (order (fetch_only (codes "a")) (fetch_only (codes "a")) ≡ Equal)
    -- instructions of two variants differ, even if their texts are equal
    × (is_same (fetch_only (codes "a")) (fetch_exclude (codes "a")) ≡ false)
    × (is_same (push_exclude (codes "a")) (fetch_exclude (codes "a")) ≡ false)
    × (is_same (fetch_only (codes "a")) (fetch_only (codes "a")) ≡ true)
fields_rise = (refl, refl, refl, refl, refl, refl, refl, refl, refl, refl, refl, refl, refl, refl, refl)
