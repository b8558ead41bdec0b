-- What a caller proves about refspecs, by the definitions of the library.
use Rattle.std.specs.Prelude.{◌≡◌, ℕ, List, Some, Result, codes, filter_map}
use Rattle.std.specs.Result.{result_ok}
use Rattle.gix_refspec_text.specs.declared.parsing.Operation.{Operation}
use Rattle.gix_refspec_text.specs.declared.parsing.Error.{Error}
use Rattle.gix_refspec_text.specs.declared.spec.RefSpecRef.{RefSpecRef}
use Rattle.gix_refspec.specs.Specs.Reading.{Forced, Reading}
use Rattle.gix_refspec.specs.Specs.Grammar.{Reads, fetched}
use Rattle.gix_refspec.specs.Specs.Meaning.{meaning_of, printed}

-- the text is a refspec for the operation
abbrev pub IsRefspec : Operation → List ℕ → Type 0
IsRefspec op text = (r : Reading) × Reads op text r

-- for the operation, r is the only reading of the text
pub record ReadsOnlyAs (op : Operation) (text : List ℕ) (r : Reading) : Type 0 where
  pub reads : Reads op text r
  pub only : (q : Reading) → Reads op text q → q ≡ r

-- two specs are equal: they are for one operation, mean the same and print the same
pub record AreEqual (r q : Reading) : Type 0 where
  pub operation : r.operation ≡ q.operation
  pub meaning : meaning_of r ≡ meaning_of q
  pub text : printed r ≡ printed q

-- c is the canonical text of a refspec, and is itself a refspec with the same meaning, and its own canonical text
pub record IsCanonicalText (op : Operation) (text c : List ℕ) : Type 0 where
  pub reading : Reading
  pub reads : Reads op text reading
  pub is : printed reading ≡ Some c
  pub again : Reading
  pub reads_again : Reads op c again
  pub same : meaning_of again ≡ meaning_of reading
  pub fixed : printed again ≡ Some c

-- two readings are for one operation and print the same text
abbrev pub PrintsSame : Reading → Reading → Type 0
PrintsSame r q = (r.operation ≡ q.operation) × (printed r ≡ printed q)

-- for the operation of r, q is the only reading of the text that a spec with the reading r prints, and is equal to r
pub record IsReadAgain (r q : Reading) : Type 0 where
  pub text : List ℕ
  pub is : printed r ≡ Some text
  pub reads : ReadsOnlyAs r.operation text q
  pub equal : AreEqual q r

-- the specs among the results of `parse`, in order
abbrev pub specs_read : List (Result RefSpecRef Error) → List RefSpecRef
specs_read answers = filter_map result_ok answers

-- the spec that `git clone` writes for the remote `origin`
abbrev pub clone_text : List ℕ
clone_text = codes "+refs/heads/*:refs/remotes/origin/*"

-- a forced fetch of each branch to a tracking ref of the remote `origin`
abbrev pub branches_of_origin : Reading
branches_of_origin = fetched Forced (codes "refs/heads/*") (Some (codes "refs/remotes/origin/*"))
