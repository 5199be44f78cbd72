-- The book that is kept of a sitting. Entries are a list, the latest first.
use Rattle.std.specs.Prelude.{ℕ, ◌-◌, List, [], ◌∷◌, length, drop, Option, Some, None}

-- the entries, how many of them are safe, and at most one that is in doubt
pub record Book (A : Type 0) : Type 0 where
  pub entries : List A
  pub safe : ℕ
  pub doubt : Option A

module _ {A : Type 0} where
  -- entries with the one in doubt, which is counted last
  abbrev pub with_doubt : Option A → List A → List A
  with_doubt (Some e) h = e ∷ h
  with_doubt None h = h

  -- all entries of a book, the one in doubt too
  abbrev pub all_of : Book A → List A
  all_of b = with_doubt b.doubt b.entries

  -- the first n entries
  abbrev pub first : ℕ → List A → List A
  first n h = drop (length h - n) h

  -- the book of a device that was just formatted
  abbrev pub no_entries : Book A
  no_entries = record { entries = []; safe = 0; doubt = None }

  -- an entry more
  abbrev pub with_entry : A → Book A → Book A
  with_entry e b = record { entries = e ∷ b.entries; safe = b.safe; doubt = b.doubt }

  -- an entry that is in doubt
  abbrev pub in_doubt : A → Book A → Book A
  in_doubt e b = record { entries = b.entries; safe = b.safe; doubt = Some e }

  -- every entry is safe
  abbrev pub all_safe : Book A → Book A
  all_safe b = record { entries = b.entries; safe = length b.entries; doubt = b.doubt }

  -- n entries were found: the book keeps the first n of all, and nothing is in doubt
  abbrev pub with_found : ℕ → Book A → Book A
  with_found n b = record { entries = first n (all_of b); safe = b.safe; doubt = None }
