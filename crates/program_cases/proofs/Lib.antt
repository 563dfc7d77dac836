mod Fetching
