mod PackageLemmas
